-- Polls of a node, one by one, and then all of them, with what becomes of each datagram.
use Rattle.std.proofs.Common.{◌≡◌, ◌∙◌, ◌+◌, ◌-◌, ◌^◌, ◌≤◌, ℕ, Bool, true, false, List, [], ◌∷◌, ◌++◌, Option, Some}
use Rattle.std.proofs.Common.{None}
use Rattle.std.proofs.Common.{Result, Ok, Err, refl, sym, subst, ap, append-nil, length}
use Rattle.std.proofs.lemmas.List.{length_push}
use Rattle.std.specs.Prelude.{IsErr, IsErrAnd, IfOk}
use Rattle.rx_model.specs.declared.event.Event.{Event}
use Rattle.rx_model.specs.declared.event.Event.TheVariants as events
use Rattle.rx_model.specs.declared.event.Noted.{Noted}
use Rattle.rx_rules.specs.Setup.{Setup}
use Rattle.rx_run.specs.Parts.{To, Ended, Cut, Endless, Part}
use Rattle.rx_run.specs.Tells.{Gains, gains_none, gains_one}
use Rattle.rx_run.proofs.Telling.{gains_both}
use Rattle.rx_wire.specs.Wire.{Logged}
use Rattle.rx_wire.specs.Turns.{noted}
use Rattle.rx_drive.specs.Carried.{Carries, Carrying, Given, Onto, PassesOn, Polling, PollsOnce, begin, ends_carried}
use Rattle.rx_drive.specs.Carried.{ends_none, ends_told, gave_none, gave_some, here, passes, polling, polls_carried}
use Rattle.rx_drive.specs.Nodes.{Answers, node_stages}
use Rattle.rx_drive.specs.Ran.{Fault, ButLast, Ran, fits_failed, fits_endless, fits_last, fits_to, fits_wants, stop_of}
use Rattle.rx_drive.specs.Ran.{wants_memory, wire_failed}
use Rattle.rx_drive.specs.Tells.{GainedMuch, IsTold, Made, Step, Told, entries_of, logs, made_of, telling}
use Rattle.rx_drive.specs.declared.stop.Stop.{Stop}
use Rattle.rx_drive.specs.declared.stop.Stop.TheVariants as stops
use Rattle.rx_drive.proofs.Gaining.{all_entries, entries_all, entries_both, gains_entries, made_both, made_none}
use Rattle.rx_drive.proofs.Onward.{onto_more}

-- ---- one poll

module _ {K : Type 0} (c : Carrying K) (node : ℕ) (line : Noted → List ℕ) (d : Given) (k l : K) (a b : Told) where
  -- the run ended as what was given was told
  pub passes_not : (stop : Stop) (r : Result Bool Stop)
      → IsTold line (Some stop) a b (noted node (events.Polled (Some d)))
      → IsErr r × IsErrAnd r (λ why. why ≡ stop) → PassesOn c node line d k l a b r
  passes_not stop (Ok again) is was = absurd was.1
  passes_not stop (Err why) is was =
      subst (λ (x : Stop). PassesOn c node line d k l a b (Err x)) (sym was.1) (ends_told stop is)

  -- it ended as it was to be carried
  pub passes_lost : (stop : Stop) (mid : Told) (r : Result Bool Stop)
      → IsTold line None a mid (noted node (events.Polled (Some d))) → Carries c k l d mid b (Some stop)
      → IsErr r × IsErrAnd r (λ why. why ≡ stop) → PassesOn c node line d k l a b r
  passes_lost stop mid (Ok again) is lost was = absurd was.1
  passes_lost stop mid (Err why) is lost was =
      subst (λ (x : Stop). PassesOn c node line d k l a b (Err x)) (sym was.1) (ends_carried stop mid is lost)

module _ {K : Type 0} (s : Setup) (stood stands : List Event → Type 0) (c : Carrying K) (node : ℕ)
    (line : Noted → List ℕ) (k : K) (a b : Told) where
  -- nothing was given
  pub none_once : (r : Result Bool Stop) → Answers s stood stands (events.Polled None)
      → IsTold line (stop_of r) a b (noted node (events.Polled None)) → IfOk r (λ again. again ≡ false)
      → PollsOnce s stood stands c node line k k a b r
  none_once (Ok again) answers is off =
      subst (λ (x : Bool). PollsOnce s stood stands c node line k k a b (Ok x)) (sym off) (gave_none answers is refl)
  none_once (Err stop) answers is off = ends_none stop answers is

-- ---- the laws of what carries

-- nothing is carried so; what is carried behind what was carried is carried of both; of what was carried some was, and
-- so it was of that and one more; and it failed at both where it failed behind what was carried
pub record AreLaws {K : Type 0} (c : Carrying K) : Type 0 where
  pub none : (k : K) → c.carried k k [] []
  pub both : (k l m : K) (xs ys : List Given) (ls ms : List Logged) → c.carried k l xs ls → c.carried l m ys ms
      → c.carried k m (xs ++ ys) (ls ++ ms)
  pub less : (k l : K) (xs : List Given) (ls : List Logged) → c.carried k l xs ls → c.some k xs ls
  pub less_one : (k l : K) (xs : List Given) (d : Given) (ls : List Logged) → c.carried k l xs ls
      → c.some k (xs ++ d ∷ []) ls
  pub lost_behind : (why : Fault) (k l : K) (xs ys : List Given) (ls ms : List Logged) → c.carried k l xs ls
      → c.lost why l ys ms → c.lost why k (xs ++ ys) (ls ++ ms)

-- ---- the polls made so far

-- polled again, behind these datagrams
abbrev pub more_of : List Given → Polling
more_of given = record { again = true; given = given }

-- not polled again
abbrev pub over_with : List Given → Polling
over_with given = record { again = false; given = given }

-- so many polls were made and told, and what they gave was carried; the node stands for its history with them
pub record SoFar {K : Type 0} (s : Setup) (c : Carrying K) (node made : ℕ) (line : Noted → List ℕ) (h : List Event)
    (k l : K) (stands : List Event → Type 0) (a b : Told) : Type 0 where
  pub steps : List Step
  pub count : length (made_of steps) ≡ made
  pub given : List Given
  pub history : List Event
  pub onto : Onto (node_stages s) polling node begin h (made_of steps) (more_of given) history
  pub carried : c.carried k l given (entries_of steps)
  pub there : stands history
  pub told : Gains (telling line) a b steps

module _ {K : Type 0} (s : Setup) (c : Carrying K) (node : ℕ) (line : Noted → List ℕ) (laws : AreLaws c)
    (h : List Event) where
  -- no poll was made
  pub none_yet : (k : K) (stands : List Event → Type 0) (a : Told) → stands h
      → SoFar s c node 0 line h k k stands a a
  none_yet k stands a is =
      record {
        steps = [];
        count = refl;
        given = [];
        history = h;
        onto = here begin h;
        carried = laws.none k;
        there = is;
        told = gains_none a;
      }

  -- one poll more, and these entries behind it
  abbrev with_poll : List Step → Option Given → List Logged → List Step
  with_poll ss got ls = ss ++ Made (noted node (events.Polled got)) ∷ all_entries ls

  made_poll : (ss : List Step) (got : Option Given) (ls : List Logged)
      → made_of (with_poll ss got ls) ≡ made_of ss ++ Made (noted node (events.Polled got)) ∷ []
  made_poll ss got ls =
      made_both ss (Made (noted node (events.Polled got)) ∷ all_entries ls)
      ∙ ap (λ (xs : List Step). made_of ss ++ Made (noted node (events.Polled got)) ∷ xs) (made_none ls)

  entries_poll : (ss : List Step) (got : Option Given) (ls : List Logged)
      → entries_of (with_poll ss got ls) ≡ entries_of ss ++ ls
  entries_poll ss got ls =
      entries_both ss (Made (noted node (events.Polled got)) ∷ all_entries ls)
      ∙ ap (λ (xs : List Logged). entries_of ss ++ xs) (entries_all ls)

  -- a poll behind which no entry came
  entries_quiet : (ss : List Step) (got : Option Given) → entries_of (with_poll ss got []) ≡ entries_of ss
  entries_quiet ss got = entries_poll ss got [] ∙ append-nil (entries_of ss)

  gains_poll : (a b mid e : Told) (ss : List Step) (got : Option Given) (ls : List Logged)
      → Gains (telling line) a b ss → IsTold line None b mid (noted node (events.Polled got))
      → GainedMuch mid e (logs ls) → Gains (telling line) a e (with_poll ss got ls)
  gains_poll a b mid e ss got ls before one after =
      gains_both before
      (gains_one b mid e (Made (noted node (events.Polled got))) (all_entries ls) one
      (gains_entries line mid e ls after))

  -- the run ended as a poll was told
  last_poll : (a b e : Told) (ss : List Step) (got : Option Given) (stop : Stop) → Gains (telling line) a b ss
      → IsTold line (Some stop) b e (noted node (events.Polled got)) → ButLast line stop a e (with_poll ss got [])
  last_poll a b e ss got stop before one =
      record {
        early = ss;
        last = Made (noted node (events.Polled got));
        between = b;
        are = refl;
        told = before;
        ends = one;
      }

  -- what is known behind a poll
  abbrev behind : List Given → Option Given → Polling
  behind given None = over_with given
  behind given (Some d) = more_of (given ++ d ∷ [])

  -- it is allowed, and stands in the history
  onto_poll : (ss : List Step) (given : List Given) (u : List Event) (stood stands : List Event → Type 0)
      (got : Option Given) (ls : List Logged)
      → Onto (node_stages s) polling node begin h (made_of ss) (more_of given) u → stood u
      → Answers s stood stands (events.Polled got)
      → Onto (node_stages s) polling node begin h (made_of (with_poll ss got ls)) (behind given got)
      (events.Polled got ∷ u)
  onto_poll ss given u stood stands None ls onto there answers =
      rw (made_poll ss None ls)
      (onto_more (node_stages s) polling node begin h (made_of ss) (more_of given) u tt (events.Polled None) onto refl
      (tt, (answers u there).0))
  onto_poll ss given u stood stands (Some d) ls onto there answers =
      rw (made_poll ss (Some d) ls)
      (onto_more (node_stages s) polling node begin h (made_of ss) (more_of given) u tt
      (events.Polled (Some d)) onto refl
      (tt, (answers u there).0))

  -- all polls of a node, where it carries from one state to another
  abbrev AllPolls : (K → K → Part Step Fault (List Event))
  AllPolls k m = polls_carried (node_stages s) c node k m h

  module _ (k l : K) (made : ℕ) (stood : List Event → Type 0) (a b : Told)
      (so : SoFar s c node made line h k l stood a b)
    where
      -- it gave something, which was carried
      pub more_polled : (d : Given) (m : K) (stands : List Event → Type 0) (mid e : Told)
          → Answers s stood stands (events.Polled (Some d))
          → IsTold line None b mid (noted node (events.Polled (Some d)))
          → Carries c l m d mid e None → SoFar s c node (made + 1) line h k m stands a e
      more_polled d m stands mid e answers one (ls, carried, gained) =
          record {
            steps = with_poll so.steps (Some d) ls;
            count = ap length (made_poll so.steps (Some d) ls)
                ∙ length_push (made_of so.steps) (Made (noted node (events.Polled (Some d))))
                ∙ ap (λ n. n + 1) so.count;
            given = so.given ++ d ∷ [];
            history = events.Polled (Some d) ∷ so.history;
            onto = onto_poll so.steps so.given so.history stood stands (Some d) ls so.onto so.there answers;
            carried = rw (entries_poll so.steps (Some d) ls)
                (laws.both k l m so.given (d ∷ []) (entries_of so.steps) ls so.carried carried);
            there = (answers so.history so.there).1;
            told = gains_poll a b mid e so.steps (Some d) ls so.told one gained;
          }

      -- it gave nothing: all polls were made
      pub out_polled : (stands : List Event → Type 0) (e : Told) → Answers s stood stands (events.Polled None)
          → IsTold line None b e (noted node (events.Polled None)) → Ran line (AllPolls k l) stands None a e
      out_polled stands e answers one =
          record {
            steps = with_poll so.steps None [];
            came = To (events.Polled None ∷ so.history);
            made = (
              over_with so.given,
              onto_poll so.steps so.given so.history stood stands None [] so.onto so.there answers,
              refl,
              rw (entries_quiet so.steps None) so.carried,
            );
            fits = fits_to (events.Polled None ∷ so.history) a e (with_poll so.steps None [])
                (answers so.history so.there).1
                (gains_both so.told (gains_one b e e (Made (noted node (events.Polled None))) [] one (gains_none e)));
          }

      -- polls that were 2^64 - 1 or more count as endless
      pub endless_polled : (shows : List Event → Type 0) → 2 ^ 64 - 1 ≤ made
          → Ran line (AllPolls k l) shows (Some stops.Endless) a b
      endless_polled shows long =
          record {
            steps = so.steps;
            came = Endless;
            made = ((more_of so.given, so.history, so.onto, so.carried), rw so.count long);
            fits = fits_endless a b so.steps so.told;
          }

      -- a poll was made, and the run was cut off as it was told
      pub cut_polled : (got : Option Given) (m : K) (stands shows : List Event → Type 0) (e : Told) (stop : Stop)
          → Answers s stood stands (events.Polled got) → IsTold line (Some stop) b e (noted node (events.Polled got))
          → Ran line (AllPolls k m) shows (Some stop) a e
      cut_polled got m stands shows e stop answers one =
          record {
            steps = with_poll so.steps got [];
            came = Cut;
            made = (
              behind so.given got,
              events.Polled got ∷ so.history,
              onto_poll so.steps so.given so.history stood stands got [] so.onto so.there answers,
              some_of got,
            );
            fits = fits_last stop a e (with_poll so.steps got []) (last_poll a b e so.steps got stop so.told one);
          }
        where
          some_of : (got : Option Given) → c.some k ((behind so.given got).given)
              (entries_of (with_poll so.steps got []))
          some_of None =
              rw (entries_quiet so.steps None) (laws.less k l so.given (entries_of so.steps) so.carried)
          some_of (Some d) =
              rw (entries_quiet so.steps (Some d)) (laws.less_one k l so.given d (entries_of so.steps) so.carried)

      -- it was told, and the run ended as what it gave was to be carried
      pub lost_polled : (d : Given) (m : K) (stands shows : List Event → Type 0) (mid e : Told) (stop : Stop)
          → Answers s stood stands (events.Polled (Some d))
          → IsTold line None b mid (noted node (events.Polled (Some d)))
          → Carries c l m d mid e (Some stop) → Ran line (AllPolls k m) shows (Some stop) a e
      lost_polled d m stands shows mid e stops.OutOfMemory answers one (ls, lost, gained) =
          record {
            steps = with_poll so.steps (Some d) ls;
            came = Ended wants_memory;
            made = (
              more_of (so.given ++ d ∷ []),
              events.Polled (Some d) ∷ so.history,
              onto_poll so.steps so.given so.history stood stands (Some d) ls so.onto so.there answers,
              rw (entries_poll so.steps (Some d) ls)
                  (laws.lost_behind wants_memory k l so.given (d ∷ []) (entries_of so.steps) ls so.carried lost),
            );
            fits = fits_wants a e (with_poll so.steps (Some d) ls)
                (gains_poll a b mid e so.steps (Some d) ls so.told one gained);
          }
      lost_polled d m stands shows mid e stops.WireFault answers one (ls, last, lost, gained, breaks) =
          record {
            steps = with_poll so.steps (Some d) ls;
            came = Ended wire_failed;
            made = (
              more_of (so.given ++ d ∷ []),
              events.Polled (Some d) ∷ so.history,
              onto_poll so.steps so.given so.history stood stands (Some d) ls so.onto so.there answers,
              rw (entries_poll so.steps (Some d) ls)
                  (laws.lost_behind wire_failed k l so.given (d ∷ []) (entries_of so.steps) ls so.carried lost),
            );
            fits = fits_failed a last e (with_poll so.steps (Some d) ls)
                (gains_poll a b mid last so.steps (Some d) ls so.told one gained) breaks;
          }
      lost_polled d m stands shows mid e stops.SinkFault answers one lost = elim lost [ ]
      lost_polled d m stands shows mid e stops.Unformatted answers one lost = elim lost [ ]
      lost_polled d m stands shows mid e stops.Unnoted answers one lost = elim lost [ ]
      lost_polled d m stands shows mid e stops.Endless answers one lost = elim lost [ ]

      -- ---- by how a poll went, at a node that is set up as before, with lines as before

      -- it gave something
      pub more_once : (t : Setup) (its : Noted → List ℕ) (m : K) (stands : List Event → Type 0) (e : Told)
          → t ≡ s → its ≡ line → (again : Bool) → again ≡ true → PollsOnce t stood stands c node its l m b e (Ok again)
          → SoFar s c node (made + 1) line h k m stands a e
      more_once t its m stands e setup lines again on once =
          of (subst (λ (x : Setup). PollsOnce x stood stands c node line l m b e (Ok true)) setup
          (subst (λ (f : Noted → List ℕ). PollsOnce t stood stands c node f l m b e (Ok true)) lines
          (subst (λ (r : Bool). PollsOnce t stood stands c node its l m b e (Ok r)) on once)))
        where
          of : PollsOnce s stood stands c node line l m b e (Ok true) → SoFar s c node (made + 1) line h k m stands a e
          of (gave_some d result answers (passes mid one carries)) = more_polled d m stands mid e answers one carries

      -- it gave nothing
      pub over_once : (t : Setup) (its : Noted → List ℕ) (m : K) (stands : List Event → Type 0) (e : Told)
          → t ≡ s → its ≡ line → (again : Bool) → again ≡ false → PollsOnce t stood stands c node its l m b e (Ok again)
          → Ran line (AllPolls k m) stands None a e
      over_once t its m stands e setup lines again off once =
          of (subst (λ (x : Setup). PollsOnce x stood stands c node line l m b e (Ok false)) setup
          (subst (λ (f : Noted → List ℕ). PollsOnce t stood stands c node f l m b e (Ok false)) lines
          (subst (λ (r : Bool). PollsOnce t stood stands c node its l m b e (Ok r)) off once)))
        where
          of : PollsOnce s stood stands c node line l m b e (Ok false) → Ran line (AllPolls k m) stands None a e
          of (gave_none answers one same) =
              subst (λ (x : K). Ran line (AllPolls k x) stands None a e) (sym same) (out_polled stands e answers one)
          of (gave_some d result answers none) = elim none [ ]

      -- the run ended
      pub ends_once : (t : Setup) (its : Noted → List ℕ) (m : K) (stands shows : List Event → Type 0) (e : Told)
          → t ≡ s → its ≡ line → (stop : Stop) (r : Result (Unit {0}) Stop)
          → PollsOnce t stood stands c node its l m b e (Err stop) → IsErr r × IsErrAnd r (λ why. why ≡ stop)
          → Ran line (AllPolls k m) shows (stop_of r) a e
      ends_once t its m stands shows e setup lines stop (Ok x) once was = absurd was.1
      ends_once t its m stands shows e setup lines stop (Err why) once was =
          subst (λ (x : Stop). Ran line (AllPolls k m) shows (Some x) a e) (sym was.1)
          (of (subst (λ (x : Setup). PollsOnce x stood stands c node line l m b e (Err stop)) setup
          (subst (λ (f : Noted → List ℕ). PollsOnce t stood stands c node f l m b e (Err stop)) lines once)))
        where
          of : PollsOnce s stood stands c node line l m b e (Err stop) → Ran line (AllPolls k m) shows (Some stop) a e
          of (ends_none why answers one) = cut_polled None m stands shows e why answers one
          of (gave_some d result answers (ends_told why one)) = cut_polled (Some d) m stands shows e why answers one
          of (gave_some d result answers (ends_carried why mid one lost)) =
              lost_polled d m stands shows mid e why answers one lost
