-- Turns of a program on nodes, as steps of a run. Public clauses cite this module.
use Rattle.std.specs.Prelude.{◌≡◌, ◌≤◌, ◌-◌, ◌^◌, ℕ, List, [], ◌∷◌, length, Some, None}
use Rattle.rx_model.specs.declared.event.Event.{Event}
use Rattle.rx_wire.specs.Turns.{Program}
use Rattle.rx_run.specs.Parts.{Came, To, Cut, Endless}

-- what a run stands at, as far as events of nodes go: which event of a node the rules allow next; what stands behind
-- it; and the step that it is
pub record Stages (S Step : Type 0) : Type 1 where
  pub may : S → ℕ → Event → Type 0
  pub after : ℕ → Event → S → S
  pub made : ℕ → Event → Step

-- an event is the one that is made, and the rules allow its answer
abbrev pub IsNext : {S Step : Type 0} → Stages S Step → S → ℕ → (Event → Type 0) → Event → Type 0
IsNext st s node is e = is e × st.may s node e

-- the steps of a turn of a program on a node, from what it knows and a stage on; one that was cut off may count as
-- endless, behind at least 2^64 - 1 of them
pub data Turn {S Step Why View Ask : Type 0} (st : Stages S Step) (p : Program View Ask) (node : ℕ)
    : View → S → List Step → Came Why (View × S) → Type 0 where
  cut_there : (v : View) (s : S) → Turn st p node v s [] Cut
  is_over : (v : View) (s : S) → p.asks v ≡ None → Turn st p node v s [] (To (v, s))
  goes : (v : View) (s : S) (a : Ask) (e : Event) (es : List Step) (out : Came Why (View × S))
      → p.asks v ≡ Some a → IsNext st s node (p.is a) e → Turn st p node (p.heard v e) (st.after node e s) es out
      → Turn st p node v s (st.made node e ∷ es) out
  is_endless : (v : View) (s : S) (es : List Step) → Turn st p node v s es Cut → 2 ^ 64 - 1 ≤ length es
      → Turn st p node v s es Endless
