-- How the run of a plan ends, from how its lines went and what was put behind them.
use Rattle.std.proofs.Common.{◌≡◌, List, [], ◌∷◌, Ok, Err, Result, refl, sym, subst}
use Rattle.std.proofs.Common.{ap, inl, inr, false, length, arith}
use Rattle.rx_model.specs.declared.event.Noted.{Noted}
use Rattle.rx_jobs.specs.Handlers.{Handlers}
use Rattle.rx_script.specs.declared.outcome.Outcome.{Outcome}
use Rattle.rx_script.specs.declared.outcome.Outcome.TheVariants as outcomes
use Rattle.rx_script.specs.declared.plan.Numbered.{Numbered}
use Rattle.rx_plan.specs.Answers.{answer_lines}
use Rattle.rx_plan.specs.Follows.{CutOff, Empty, EndlessIn, Goes, Progress, RefusedAt, Went, Whole, begins}
use Rattle.rx_plan.specs.Follows.{goes_from}
use Rattle.rx_stage.specs.Runs.{RunIs, Tells}
use Rattle.rx_stage.specs.Showing.{Ends, IsBegun, Made, PutsBy, RunsOn, ShowsRun, ended_at, outcome_of}
use Rattle.rx_stage.specs.Shown.{Shows, WorldState}
use Rattle.rx_plan.specs.Stages.{Stage}
use Rattle.rx_stage.specs.Tells.{Gains, Told, gains_none, wants_more}
use Rattle.rx_stage.specs.declared.runs.Running.{Running}
use Rattle.rx_stage.specs.declared.stop.Stop.{Stop}
use Rattle.rx_stage.specs.declared.stop.Stop.TheVariants as stops

-- ---- the lines behind the first

-- what was put of the answer lines
put_tells : (g : Handlers) (plan : List Numbered) (s : Stage) (result : Result (Unit {0}) Outcome) (a b c : Told)
    (es : List Noted) → Gains a b es → PutsBy result b c (answer_lines g.types g.procs plan s.callers)
    → Tells g plan (outcome_of result) (Whole s) a c es
put_tells g plan s (Ok whole) a b c es told puts = record { between = b; told = told; puts = puts }
put_tells g plan s (Err outcomes.SinkFault) a b c es told puts = record { between = b; told = told; puts = puts }
put_tells g plan s (Err outcomes.OutOfMemory) a b c es told puts = record { between = b; told = told; puts = puts }
put_tells g plan s (Err outcomes.Ran) a b c es told none = elim none [ ]
put_tells g plan s (Err (outcomes.Refused line why)) a b c es told none = elim none [ ]

-- all were made, and then the answer lines were put
pub runs_answered : (g : Handlers) (plan rest : List Numbered) (p : Progress) (w : WorldState)
    (result : Result (Unit {0}) Outcome) (a b c : Told) → Made g rest p (Shows w) (Ok tt) a b
    → PutsBy result b c (answer_lines g.types g.procs plan w.callers)
    → RunsOn g plan rest p (outcome_of result) a c
runs_answered g plan rest p w result a b c m puts = of m.went m.goes m.ends
  where
    of : (went : Went) → Goes g rest p m.events went → Ends (Shows w) (Ok tt) went a b m.events
        → RunsOn g plan rest p (outcome_of result) a c
    of Empty goes ends = elim ends [ ]
    of (RefusedAt its cause) goes ends = elim ends [ ]
    of CutOff goes ends = elim ends [ ]
    of EndlessIn goes ends = elim ends [ ]
    of (Whole s) goes (there, told) =
        record {
          events = m.events;
          went = Whole s;
          goes = goes;
          tells = put_tells g plan s result a b c m.events told
              (subst (λ is. PutsBy result b c (answer_lines g.types g.procs plan is))
              (sym (ap (λ (t : Stage). t.callers) there.is)) puts);
        }

-- ---- a whole plan

none_there : {X : Type 0} (xs : List X) → length xs ≡ 0 → xs ≡ []
none_there [] none = refl
none_there (x ∷ xs) none = absurd (omega (arith, none))

-- no line
pub run_empty : (g : Handlers) (plan : List Numbered) (a : Told) → length plan ≡ 0 → RunIs g plan outcomes.Ran a a
run_empty g plan a none =
    subst (λ ls. RunIs g ls outcomes.Ran a a) (sym (none_there plan none))
    (record { events = []; went = Empty; goes = (refl, refl); tells = gains_none a })

-- the first line made the server, and the run went on
pub run_on : (g : Handlers) (first : Numbered) (rest : List Numbered) (r : Running) (outcome : Outcome) (a b : Told)
    → IsBegun (begins first.what) (Ok r)
    → ((p : Progress) → ShowsRun r 1 p → RunsOn g (first ∷ rest) rest p outcome a b)
    → RunIs g (first ∷ rest) outcome a b
run_on g first rest r outcome a b (s, came, shows, counted) on =
    of (on (record { stage = s; late = false; place = 1 }) shows)
  where
    of : RunsOn g (first ∷ rest) rest (record { stage = s; late = false; place = 1 }) outcome a b
        → RunIs g (first ∷ rest) outcome a b
    of m =
        record {
          events = m.events;
          went = m.went;
          goes = inl (subst (λ x. goes_from g first.line rest x m.events m.went) (sym came) m.goes);
          tells = m.tells;
        }

-- the first line ended the run
pub run_refused : (g : Handlers) (first : Numbered) (rest : List Numbered) (stop : Stop) (a : Told)
    → IsBegun (begins first.what) (Err stop) → RunIs g (first ∷ rest) (ended_at first.line stop) a a
run_refused g first rest (stops.Refused why) a begun =
    record {
      events = [];
      went = RefusedAt first.line why;
      goes = inl (subst (λ x. goes_from g first.line rest x [] (RefusedAt first.line why)) (sym begun) (refl, refl));
      tells = (refl, refl, gains_none a);
    }
run_refused g first rest stops.OutOfMemory a begun =
    record { events = []; went = CutOff; goes = inr (refl, refl); tells = wants_more a }
run_refused g first rest stops.SinkFault a none = elim none [ ]
run_refused g first rest stops.Endless a none = elim none [ ]
