-- Lines of a plan that were made one by one.
use Rattle.std.proofs.Common.{◌≡◌, ◌∙◌, ℕ, suc, List, [], ◌∷◌, ◌++◌, Option, Some, None, Ok, Err, Result, refl, sym}
use Rattle.std.proofs.Common.{subst}
use Rattle.std.proofs.Common.{◌<◌, ◌+◌, true, ap, length, take, drop, get_or}
use Rattle.std.proofs.Math.Seq.{drop-cons}
use Rattle.std.proofs.lemmas.List.{append-nil, append_assoc, take-append-drop, take_more}
use Rattle.std.specs.Prelude.{OnOk}
use Rattle.std.proofs.lemmas.Bool.{false≢true}
use Rattle.rx_model.specs.declared.event.Noted.{Noted}
use Rattle.rx_model.specs.declared.names.Host.{Host}
use Rattle.rx_model.specs.declared.names.Limits.{Limits}
use Rattle.rx_jobs.specs.Handlers.{Handlers}
use Rattle.rx_script.specs.declared.plan.Numbered.{Numbered}
use Rattle.rx_plan.specs.Follows.{CutOff, EndlessIn, Goes, Progress, RefusedAt, Went, Whole, all, cut, endless, next}
use Rattle.rx_plan.specs.Follows.{next_part, refused}
use Rattle.rx_script.specs.declared.plan.PlanLine.{PlanLine}
use Rattle.rx_script.specs.declared.plan.PlanLine.TheVariants as lines
use Rattle.rx_plan.specs.Lines.{line_part}
use Rattle.rx_plan.specs.Parts.{Came, To, Part, ends}
use Rattle.rx_stage.specs.Ran.{Fits, Ran}
use Rattle.rx_stage.specs.Ran.{fits_endless, fits_refused, fits_wants, fits_fails}
use Rattle.rx_stage.specs.Showing.{IsCounted, Made, MakesLine, ShowsRun, ended_at, other_part}
use Rattle.rx_stage.specs.Shown.{Plays, Shows, WorldState}
use Rattle.rx_plan.specs.Stages.{Stage}
use Rattle.rx_stage.specs.Tells.{Gains, Told, gains_none}
use Rattle.rx_stage.specs.declared.runs.Running.{Running}
use Rattle.rx_stage.specs.declared.stop.Stop.{Stop}
use Rattle.rx_stage.proofs.Each as eachs
use Rattle.rx_stage.proofs.Running.{ran_stops, ran_then, ran_to}
use Rattle.rx_run.proofs.Telling.{fails_behind, gains_both, wants_behind}

-- lines that were made whole: with what goes behind them they go so, and what they came to is shown
pub record Behind (g : Handlers) (ls : List Numbered) (p : Progress) (shows : Progress → Type 0) (a b : Told)
    : Type 0 where
  pub events : List Noted
  pub to : Progress
  pub onward : (more : List Numbered) (rest : List Noted) (went : Went)
      → Goes g more to rest went → Goes g (ls ++ more) p (events ++ rest) went
  pub there : shows to
  pub told : Gains a b events

-- none yet
pub behind_none : (g : Handlers) (p : Progress) (shows : Progress → Type 0) (a : Told) → shows p
    → Behind g [] p shows a a
behind_none g p shows a there =
    record { events = []; to = p; onward = λ more rest went goes. goes; there = there; told = gains_none a }

-- one more
pub behind_more : (g : Handlers) (ls : List Numbered) (l : Numbered) (p : Progress) (shows after : Progress → Type 0)
    (a b c : Told) → Behind g ls p shows a b → ((q : Progress) → shows q → Ran (next_part g l.what q) after None b c)
    → Behind g (ls ++ l ∷ []) p after a c
behind_more g ls l p shows after a b c before made =
    of (eachs.whole (next_part g l.what before.to) after b c (made before.to before.there))
  where
    of : eachs.Whole (next_part g l.what before.to) after b c → Behind g (ls ++ l ∷ []) p after a c
    of w =
        record {
          events = before.events ++ w.events;
          to = w.to;
          onward = λ more rest went goes.
              subst (λ es. Goes g ((ls ++ l ∷ []) ++ more) p es went) (sym (append_assoc before.events w.events rest))
              (subst (λ xs. Goes g xs p (before.events ++ (w.events ++ rest)) went) (sym (append_assoc ls
              (l ∷ []) more))
              (before.onward (l ∷ more) (w.events ++ rest) went
              (next l more before.to w.to w.events rest went w.made goes)));
          there = w.there;
          told = gains_both before.told w.told;
        }

module _ (g : Handlers) (ls more : List Numbered) (l : Numbered) (p : Progress) (shows after : Progress → Type 0)
    (last : Stage → Type 0) (stop : Stop) (a b c : Told) where
  -- one that ended the run, whatever was to come
  pub behind_ended : Behind g ls p shows a b
      → ((q : Progress) → shows q → Ran (next_part g l.what q) after (Some stop) b c)
      → Made g (ls ++ l ∷ more) p last (Err (ended_at l.line stop)) a c
  behind_ended before made =
      of stop (made before.to before.there)
    where
      from : (es : List Noted) (came : Came Progress) (why : Stop) → next_part g l.what before.to es came
          → Fits after came (Some why) b c es → Made g (ls ++ l ∷ more) p last (Err (ended_at l.line why)) a c
      from es came why made (fits_refused cause old new them told) =
          record {
            events = before.events ++ es;
            went = RefusedAt l.line cause;
            goes = before.onward (l ∷ more) es (RefusedAt l.line cause) (refused l more before.to es cause made);
            ends = (refl, refl, gains_both before.told told);
          }
      from es came why made (fits_wants old new them told) =
          record {
            events = before.events ++ es;
            went = CutOff;
            goes = before.onward (l ∷ more) es CutOff (cut l more before.to es made);
            ends = wants_behind before.told told;
          }
      from es came why made (fits_fails old new them told) =
          record {
            events = before.events ++ es;
            went = CutOff;
            goes = before.onward (l ∷ more) es CutOff (cut l more before.to es made);
            ends = fails_behind before.told told;
          }
      from es came why made (fits_endless old new them told) =
          record {
            events = before.events ++ es;
            went = EndlessIn;
            goes = before.onward (l ∷ more) es EndlessIn (endless l more before.to es made);
            ends = gains_both before.told told;
          }

      of : (why : Stop) → Ran (next_part g l.what before.to) after (Some why) b c
          → Made g (ls ++ l ∷ more) p last (Err (ended_at l.line why)) a c
      of why r = from r.events r.came why r.made r.fits

-- all of them
pub behind_all : (g : Handlers) (ls : List Numbered) (p : Progress) (r : Running) (place : ℕ) (a b : Told)
    → Behind g ls p (ShowsRun r place) a b → Made g ls p (Shows r.world) (Ok tt) a b
behind_all g ls p r place a b before =
    record {
      events = before.events;
      went = Whole before.to.stage;
      goes = subst (λ xs. Goes g xs p before.events (Whole before.to.stage)) (append-nil ls)
          (subst (λ es. Goes g (ls ++ []) p es (Whole before.to.stage)) (append-nil before.events)
          (before.onward [] [] (Whole before.to.stage) (all before.to)));
      ends = (before.there.stage, before.told);
    }

-- ---- a line that makes no node

pub other_made : (g : Handlers) (line : PlanLine) (place : ℕ) (old : Running) (w : WorldState) (stop : Option Stop)
    (a b : Told) → Plays (line_part g place line) old.world w stop a b
    → MakesLine (other_part g line) place old (record { world = w; late = true; slots = old.slots }) stop a b
other_made g line place old w stop a b plays p shows = of stop here
  where
    new : Running
    new = record { world = w; late = true; slots = old.slots }

    here : Ran (line_part g p.place line p.stage) (Shows w) stop a b
    here = subst (λ k. Ran (line_part g k line p.stage) (Shows w) stop a b) (sym shows.place)
        (plays p.stage shows.stage)

    onto : Stage → Part Progress
    onto s = ends (To (record { stage = s; late = true; place = suc p.place }))

    of : (why : Option Stop) → Ran (line_part g p.place line p.stage) (Shows w) why a b
        → Ran (other_part g line p) (ShowsRun new (suc place)) why a b
    of None r =
        ran_then (line_part g p.place line p.stage) onto (Shows w) (ShowsRun new (suc place)) None a b b r
        (λ s there. ran_to (ShowsRun new (suc place)) (record { stage = s; late = true; place = suc p.place }) b
        (record { stage = there; late = refl; place = ap suc shows.place }))
    of (Some why) r =
        ran_stops (line_part g p.place line p.stage) onto (Shows w) (ShowsRun new (suc place)) why a b r

-- a line that makes no client is made as one that makes no node
pub next_made : (g : Handlers) (line : PlanLine) (place : ℕ) (old new : Running) (stop : Option Stop) (a b : Told)
    → ((host : Host) (epoch : ℕ) (limits : Limits) (key : Option
    (List ℕ)) → line ≡ lines.Client host epoch limits key → ⊥)
    → MakesLine (other_part g line) place old new stop a b → MakesLine (next_part g line) place old new stop a b
next_made g (lines.Client host epoch limits key) place old new stop a b other made =
    absurd (other host epoch limits key refl)
next_made g line place old new stop a b other made = made

-- behind it nothing is counted any more
pub late_counted : (r : Result (Unit {0}) Stop) (new : Running) → new.late ≡ true → OnOk r (IsCounted new)
late_counted (Ok done) new late = λ early. absurd (false≢true (sym early ∙ late))
late_counted (Err stop) new late = tt

-- ---- lists

-- the part up to a place, and the one at it
pub grown : {X : Type 0} (xs : List X) (k : ℕ) (x : X) → k < length xs → x ≡ get_or xs k x
    → take (k + 1) xs ≡ take k xs ++ x ∷ []
grown xs k x there at = take_more xs k x there ∙ ap (λ y. take k xs ++ y ∷ []) (sym at)

-- and those behind it
pub parted : {X : Type 0} (xs : List X) (k : ℕ) (x : X) → k < length xs → x ≡ get_or xs k x
    → take k xs ++ x ∷ drop (suc k) xs ≡ xs
parted xs k x there at =
    ap (λ y. take k xs ++ y ∷ drop (suc k) xs) at ∙ ap (λ ys. take k xs ++ ys) (sym (drop-cons xs k x there))
    ∙ take-append-drop k xs
