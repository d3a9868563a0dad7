-- Turns of a program that go on, event by event.
use Rattle.std.proofs.Common.{◌≡◌, ℕ, List, [], ◌∷◌, ◌++◌, Some}
use Rattle.rx_model.specs.declared.event.Event.{Event}
use Rattle.rx_run.specs.Programs.{IsNext, Stages}
use Rattle.rx_wire.specs.Turns.{Program}
use Rattle.rx_drive.specs.Carried.{Onto, here, onward}

module _ {S Step View Ask : Type 0} (st : Stages S Step) (p : Program View Ask) (node : ℕ) where
  -- one event more
  pub onto_more : (v : View) (s : S) (es : List Step) (w : View) (u : S) (a : Ask) (e : Event)
      → Onto st p node v s es w u → p.asks w ≡ Some a → IsNext st u node (p.is a) e
      → Onto st p node v s (es ++ st.made node e ∷ []) (p.heard w e) (st.after node e u)
  onto_more v s es w u a e (here x y) asked allowed =
      onward v s a e [] (p.heard v e) (st.after node e s) asked allowed (here (p.heard v e) (st.after node e s))
  onto_more v s es w u a e (onward x y b f fs x2 y2 before there rest) asked allowed =
      onward v s b f (fs ++ st.made node e ∷ []) (p.heard w e) (st.after node e u) before there
      (onto_more (p.heard v f) (st.after node f s) fs w u a e rest asked allowed)
