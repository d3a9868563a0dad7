-- A quiet round of a server and one client: both clocks move by the least time, and nothing else changes.
use Rattle.std.proofs.Common.{◌≡◌, ◌+◌, ◌&&◌, not, ℕ, suc, Bool, true, List, [], ◌∷◌, ◌++◌, ap, sym, subst, ◌∙◌, Option}
use Rattle.std.proofs.Common.{Some, length, arith}
use Rattle.std.specs.Prelude.{drop}
use Rattle.std.proofs.lemmas.Bool.{ne_eqb}
use Rattle.rx_model.specs.declared.event.Event.{Event}
use Rattle.rx_model.specs.declared.event.Event.TheVariants as events
use Rattle.rx_rules.specs.Looks.{Looks}
use Rattle.rx_history.proofs.Moments.{now-side}
use Rattle.rx_history.specs.Sides.{Node, moment}
use Rattle.rx_jobs.specs.Jobs.{JobState}
use Rattle.rx_events.specs.Events.{IsClocked}
use Rattle.rx_events.specs.Waits.{least_wait}
use Rattle.rx_plan.specs.Network.{below}
use Rattle.rx_plan.specs.Parts.{To, by_test, each, ends}
use Rattle.rx_plan.specs.Rounds.{clients_first, may_move, moves_by, moves_on, settles}
use Rattle.rx_plan.specs.Stages.{InvokedState, Stage, with_event}
use Rattle.rx_rounds.proofs.Making.{ends_to, event_to, then_to}
use Rattle.rx_rounds.proofs.One.OneCall.{Ends, client_setup, server_setup}
use Rattle.rx_rounds.proofs.Rounded.{Made}
use Rattle.rx_rounds.proofs.Two.{Two, two_client, two_server}

-- a clock event with this moment
pub clocked_is : (now : ℕ) (e : Event) → IsClocked now e → e ≡ events.Clocked now
clocked_is now (events.Clocked moment) is = ap (λ (m : ℕ). events.Clocked m) is
clocked_is now _ is = absurd is

-- later by so much
abbrev pub later : ℕ → Looks → Looks
later time l = record l { now = l.now + time }

module _ (x : Ends) (ls lc : Looks) (cs : List InvokedState) (js : List JobState) where
  pub moment_client : (s : Stage) → Two x ls lc cs js s → moment 1 s.history ≡ lc.now
  moment_client s two = sym (now-side (client_setup x) 1 s.history) ∙ ap (λ (l : Looks). l.now) two.client

  pub moment_server : (s : Stage) → Two x ls lc cs js s → moment 0 s.history ≡ ls.now
  moment_server s two = sym (now-side (server_setup x) 0 s.history) ∙ ap (λ (l : Looks). l.now) two.server

  client_moves : (time : ℕ) (s t : Stage) → Two x ls lc cs js s → Made (moves_on time 1) s t
      → Two x ls (later time lc) cs js t
  client_moves time s t two made =
      let h = event_to 1 (IsClocked (moment 1 s.history + time)) s t made.0 made.1 in
      let is : h.event ≡ events.Clocked (lc.now + time) =
      clocked_is (moment 1 s.history + time) h.event h.allowed.0
      ∙ ap (λ (m : ℕ). events.Clocked (m + time)) (moment_client s two) in
      subst (λ (u : Stage). Two x ls (later time lc) cs js u) (sym (h.then_ ∙ ap (λ (e : Event). with_event 1 e s) is))
      (two_client x ls lc cs js s (events.Clocked (lc.now + time)) two)

  server_moves : (time : ℕ) (s t : Stage) → Two x ls lc cs js s → Made (moves_on time 0) s t
      → Two x (later time ls) lc cs js t
  server_moves time s t two made =
      let h = event_to 0 (IsClocked (moment 0 s.history + time)) s t made.0 made.1 in
      let is : h.event ≡ events.Clocked (ls.now + time) =
      clocked_is (moment 0 s.history + time) h.event h.allowed.0
      ∙ ap (λ (m : ℕ). events.Clocked (m + time)) (moment_server s two) in
      subst (λ (u : Stage). Two x (later time ls) lc cs js u) (sym (h.then_ ∙ ap (λ (e : Event). with_event 0 e s) is))
      (two_server x ls lc cs js s (events.Clocked (ls.now + time)) two)

-- both clocks move
pub settles_moves : (x : Ends) (ls lc : Looks) (cs : List InvokedState) (js : List JobState) (time : ℕ) (s t : Stage)
    → Two x ls lc cs js s
    → least_wait s.nodes s.history ≡ Some (suc time) → may_move (suc time) s ≡ true → Made (settles true) s t
    → Two x (later (suc time) ls) (later (suc time) lc) cs js t
settles_moves x ls lc cs js time s t two least may made =
    let of : moves_by (Some (suc time)) s made.0 (To t) = subst (λ (o : Option ℕ). moves_by o s made.0 (To t)) least
    made.1 in
    let go : each (moves_on (suc time)) (clients_first s) s made.0 (To t) =
    subst (λ (b : Bool). by_test b (each (moves_on (suc time)) (clients_first s) s) (ends (To s)) made.0 (To t))
    (ap (λ (b : Bool). not b && may_move (suc time) s) (ne_eqb (suc time) 0 (λ (e : suc time ≡ 0). omega arith))
    ∙ may) of in
    let order : clients_first s ≡ 1 ∷ 0 ∷ [] = ap (λ (ns : List Node). drop 1 (below (length ns)) ++ 0 ∷ [])
    two.nodes in
    let all : each (moves_on (suc time)) (1 ∷ 0 ∷ []) s made.0 (To t) = subst
    (λ (ns : List ℕ). each (moves_on (suc time)) ns s made.0 (To t)) order go in
    let a = then_to (moves_on (suc time) 1 s) (each (moves_on (suc time)) (0 ∷ [])) made.0 t all in
    let b = then_to (moves_on (suc time) 0 a.between) (each (moves_on (suc time)) []) a.rest t a.goes in
    let first = client_moves x ls lc cs js (suc time) s a.between two (a.front, a.made) in
    let second = server_moves x ls (later (suc time) lc) cs js (suc time) a.between b.between first (b.front, b.made) in
    subst (λ (u : Stage). Two x (later (suc time) ls) (later (suc time) lc) cs js u)
    (sym (ends_to b.between t b.rest b.goes)) second
