-- Turns of a program that makes calls of several nodes, as steps of a run. Public clauses cite this module.
use Rattle.std.specs.Prelude.{◌≡◌, ◌≤◌, ◌-◌, ◌^◌, ℕ, List, [], ◌∷◌, length, Some, None}
use Rattle.rx_model.specs.declared.event.Event.{Event}
use Rattle.rx_run.specs.Parts.{Came, Cut, Endless, To}
use Rattle.rx_run.specs.Programs.{IsNext, Stages}
use Rattle.rx_wire.specs.Turns.{Program}

-- the steps of a turn of a program, each of whose calls is made of the node that what it knows then says; as those of a
-- turn on one node, a turn that was cut off may count as endless, behind at least 2^64 - 1 of them
pub data TurnAcross {S Step Why View Ask : Type 0} (st : Stages S Step) (p : Program View Ask) (at : View → ℕ)
    : View → S → List Step → Came Why (View × S) → Type 0 where
  cut_there : (v : View) (s : S) → TurnAcross st p at v s [] Cut
  is_over : (v : View) (s : S) → p.asks v ≡ None → TurnAcross st p at v s [] (To (v, s))
  goes : (v : View) (s : S) (a : Ask) (e : Event) (es : List Step) (out : Came Why (View × S))
      → p.asks v ≡ Some a → IsNext st s (at v) (p.is a) e
      → TurnAcross st p at (p.heard v e) (st.after (at v) e s) es out
      → TurnAcross st p at v s (st.made (at v) e ∷ es) out
  is_endless : (v : View) (s : S) (es : List Step) → TurnAcross st p at v s es Cut → 2 ^ 64 - 1 ≤ length es
      → TurnAcross st p at v s es Endless
