-- Turns of a program on a node, call by call.
use Rattle.std.proofs.Common.{◌≡◌, ◌∙◌, ◌+◌, ◌-◌, ◌^◌, ◌≤◌, ℕ, Bool, true, false, List, [], ◌∷◌, ◌++◌, Some, None}
use Rattle.std.proofs.Common.{Result, Ok, Err, refl, sym, subst, ap, length}
use Rattle.std.proofs.lemmas.List.{length_push}
use Rattle.std.specs.Prelude.{IsErr, IsErrAnd, IfOk}
use Rattle.rx_model.specs.declared.event.Event.{Event}
use Rattle.rx_model.specs.declared.event.Noted.{Noted}
use Rattle.rx_rules.specs.Setup.{Setup}
use Rattle.rx_run.specs.Parts.{To, Ended, Cut, Endless}
use Rattle.rx_run.specs.Tells.{Gains, gains_none, gains_one}
use Rattle.rx_run.proofs.Telling.{gains_both}
use Rattle.rx_wire.specs.Turns.{Program, noted}
use Rattle.rx_drive.specs.Carried.{Onto, here}
use Rattle.rx_drive.specs.Nodes.{node_stages}
use Rattle.rx_drive.specs.Ran.{Ran, fits_endless, fits_last, fits_to, fits_wants, stop_of, wants_memory}
use Rattle.rx_drive.specs.Tells.{IsTold, Made, Step, Told, telling}
use Rattle.rx_drive.specs.Turned.{CallsNext, CallsOnce, calls, ends_called, is_over, turn, wants_first}
use Rattle.rx_drive.specs.declared.stop.Stop.{Stop}
use Rattle.rx_drive.specs.declared.stop.Stop.TheVariants as stops
use Rattle.rx_drive.proofs.Onward.{onto_more}

module _ {View Ask : Type 0} (p : Program View Ask) (wants : View → Type 0) (node : ℕ) where
  -- ---- one call

  -- memory was wanted before it
  pub wants_once : (s : Setup) (line : Noted → List ℕ) (stood stands : List Event → Type 0) (v w : View) (a : Told)
      (r : Result Bool Stop) → IsErr r × IsErrAnd r (λ stop. stop ≡ stops.OutOfMemory) → wants v
      → CallsOnce p wants s stood stands node line v w a a r
  wants_once s line stood stands v w a (Ok again) was want = absurd was.1
  wants_once s line stood stands v w a (Err stop) was want =
      subst (λ (x : Stop). CallsOnce p wants s stood stands node line v w a a (Err x)) (sym was.1)
      (wants_first want refl)

  -- it was made, and this was told of it
  pub called_once : (s : Setup) (line : Noted → List ℕ) (stood stands : List Event → Type 0) (v w : View) (a b : Told)
      (r : Result Bool Stop) (e : Event) → CallsNext p s stood stands v w e → IsTold line (stop_of r) a b (noted node e)
      → IfOk r (λ goes. goes ≡ true) → CallsOnce p wants s stood stands node line v w a b r
  called_once s line stood stands v w a b (Ok goes) e next told on =
      subst (λ (x : Bool). CallsOnce p wants s stood stands node line v w a b (Ok x)) (sym on) (calls e next told)
  called_once s line stood stands v w a b (Err stop) e next told on = ends_called e stop next told

  -- ---- the calls made so far

  -- so many calls of a turn were made and told, and this is known then; the node stands for its history with them
  pub record Gone (s : Setup) (made : ℕ) (line : Noted → List ℕ) (h : List Event) (v w : View)
      (stands : List Event → Type 0) (a b : Told) : Type 0 where
    pub steps : List Step
    pub count : length steps ≡ made
    pub history : List Event
    pub onto : Onto (node_stages s) p node v h steps w history
    pub there : stands history
    pub told : Gains (telling line) a b steps

  -- none was
  pub gone_none : (s : Setup) (line : Noted → List ℕ) (h : List Event) (v : View) (stands : List Event → Type 0)
      (a : Told) → stands h → Gone s 0 line h v v stands a a
  gone_none s line h v stands a is =
      record { steps = []; count = refl; history = h; onto = here v h; there = is; told = gains_none a }

  module _ (s : Setup) (line : Noted → List ℕ) (h : List Event) (v w : View) (made : ℕ) (stood : List Event → Type 0)
      (a b : Told) (so : Gone s made line h v w stood a b) where
    -- with one call more
    onto_call : (u : View) (stands : List Event → Type 0) (e : Event) → CallsNext p s stood stands w u e
        → Onto (node_stages s) p node v h (so.steps ++ Made (noted node e) ∷ []) u (e ∷ so.history)
    onto_call u stands e next =
        subst (λ (x : View). Onto (node_stages s) p node v h (so.steps ++ Made (noted node e) ∷ []) x (e ∷ so.history))
        (sym next.heard)
        (onto_more (node_stages s) p node v h so.steps w so.history next.ask e so.onto next.asked
        (next.is, (next.answers so.history so.there).0))

    gone_more : (u : View) (stands : List Event → Type 0) (c : Told) (e : Event) → CallsNext p s stood stands w u e
        → IsTold line None b c (noted node e) → Gone s (made + 1) line h v u stands a c
    gone_more u stands c e next told =
        record {
          steps = so.steps ++ Made (noted node e) ∷ [];
          count = length_push so.steps (Made (noted node e)) ∙ ap (λ n. n + 1) so.count;
          history = e ∷ so.history;
          onto = onto_call u stands e next;
          there = (next.answers so.history so.there).1;
          told = gains_both so.told (gains_one b c c (Made (noted node e)) [] told (gains_none c));
        }

    -- the turn is over
    gone_over : (after : View × List Event → Type 0) → p.asks w ≡ None → ((u : List Event) → stood u → after (w, u))
        → Ran line (turn (node_stages s) p wants node v h) after None a b
    gone_over after over shows =
        record {
          steps = so.steps;
          came = To (w, so.history);
          made = (so.onto, over);
          fits = fits_to (w, so.history) a b so.steps (shows so.history so.there) so.told;
        }

    -- 2^64 - 1 calls or more count as endless
    pub gone_endless : (after : View × List Event → Type 0) → 2 ^ 64 - 1 ≤ made
        → Ran line (turn (node_stages s) p wants node v h) after (Some stops.Endless) a b
    gone_endless after long =
        record {
          steps = so.steps;
          came = Endless;
          made = ((w, so.history, so.onto, tt), rw so.count long);
          fits = fits_endless a b so.steps so.told;
        }

    -- ---- by how a call went, on a node that is set up as before, with lines as before

    abbrev Once : (Setup → (Noted → List ℕ) → View → (List Event → Type 0) → Told → Result Bool Stop → Type 0)
    Once t its u stands c r = CallsOnce p wants t stood stands node its w u b c r

    as_here : (t : Setup) (its : Noted → List ℕ) (u : View) (stands : List Event → Type 0) (c : Told)
        (r : Result Bool Stop) → t ≡ s → its ≡ line → Once t its u stands c r → Once s line u stands c r
    as_here t its u stands c r setup lines once =
        subst (λ (x : Setup). Once x line u stands c r) setup
        (subst (λ (f : Noted → List ℕ). Once t f u stands c r) lines once)

    -- there was one
    pub more_call : (t : Setup) (its : Noted → List ℕ) (u : View) (stands : List Event → Type 0) (c : Told)
        → t ≡ s → its ≡ line → (again : Bool) → again ≡ true → Once t its u stands c (Ok again)
        → Gone s (made + 1) line h v u stands a c
    more_call t its u stands c setup lines again on once =
        of (as_here t its u stands c (Ok true) setup lines
        (subst (λ (x : Bool). Once t its u stands c (Ok x)) on once))
      where
        of : Once s line u stands c (Ok true) → Gone s (made + 1) line h v u stands a c
        of (calls e next told) = gone_more u stands c e next told

    -- there was none: the turn is over, and this is known of it
    pub over_call : (t : Setup) (its : Noted → List ℕ) (u : View) (stands : List Event → Type 0) (c : Told)
        → t ≡ s → its ≡ line → (again : Bool) → again ≡ false → (x : View) → (again ≡ false → u ≡ x)
        → Once t its u stands c (Ok again)
        → Ran line (turn (node_stages s) p wants node v h) (λ r. (r.0 ≡ x) × stands r.1) None a c
    over_call t its u stands c setup lines again off x is once =
        of (as_here t its u stands c (Ok false) setup lines
        (subst (λ (y : Bool). Once t its u stands c (Ok y)) off once))
      where
        of : Once s line u stands c (Ok false)
            → Ran line (turn (node_stages s) p wants node v h) (λ r. (r.0 ≡ x) × stands r.1) None a c
        of (is_over over same stays quiet) =
            subst (λ (y : Told). Ran line (turn (node_stages s) p wants node v h)
            (λ r. (r.0 ≡ x) × stands r.1) None a y)
            (sym quiet)
            (gone_over (λ r. (r.0 ≡ x) × stands r.1) over (λ g there. (sym same ∙ is off, stays g there)))

    -- the run ended
    pub ends_call : (t : Setup) (its : Noted → List ℕ) (u : View) (stands : List Event → Type 0) (c : Told)
        (after : View × List Event → Type 0) → t ≡ s → its ≡ line → (stop : Stop) (r : Result (Unit {0}) Stop)
        → Once t its u stands c (Err stop) → IsErr r × IsErrAnd r (λ why. why ≡ stop)
        → Ran line (turn (node_stages s) p wants node v h) after (stop_of r) a c
    ends_call t its u stands c after setup lines stop (Ok x) once was = absurd was.1
    ends_call t its u stands c after setup lines stop (Err why) once was =
        subst (λ (x : Stop). Ran line (turn (node_stages s) p wants node v h) after (Some x) a c) (sym was.1)
        (of stop (as_here t its u stands c (Err stop) setup lines once))
      where
        of : (end : Stop) → Once s line u stands c (Err end)
            → Ran line (turn (node_stages s) p wants node v h) after (Some end) a c
        of end (ends_called e last next told) =
            record {
              steps = so.steps ++ Made (noted node e) ∷ [];
              came = Cut;
              made = (u, e ∷ so.history, onto_call u stands e next, tt);
              fits = fits_last last a c (so.steps ++ Made (noted node e) ∷ [])
                  (record {
                    early = so.steps;
                    last = Made (noted node e);
                    between = b;
                    are = refl;
                    told = so.told;
                    ends = told;
                  });
            }
        of end (wants_first want quiet) =
            subst (λ (y : Told). Ran line (turn (node_stages s) p wants node v h) after (Some stops.OutOfMemory) a y)
            (sym quiet)
            (record {
              steps = so.steps;
              came = Ended wants_memory;
              made = (w, so.history, so.onto, want);
              fits = fits_wants a b so.steps so.told;
            })
