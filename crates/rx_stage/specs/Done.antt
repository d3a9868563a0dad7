-- Callers that are done: their turns make nothing. Public clauses cite this module.
use Rattle.std.specs.Prelude.{◌≡◌, ℕ, Bool, true, false, List, [], ◌∷◌, Option, Some, None, slice_get}
use Rattle.rx_asks.specs.Asks.{is_done}
use Rattle.rx_asks.specs.View.{CallerState}
use Rattle.rx_joint.specs.Nodes.{NodesState}
use Rattle.rx_stage.specs.declared.stop.Stop.{Stop}
use Rattle.rx_plan.specs.Parts.{Part}
use Rattle.rx_plan.specs.Stages.{InvokedState, Stage}
use Rattle.rx_stage.specs.Shown.{Plays, WorldState}
use Rattle.rx_stage.specs.Tells.{Told}

-- whether a caller that is there is done
abbrev pub is_done_if : Option InvokedState → Bool
is_done_if None = false
is_done_if (Some i) = is_done i.caller

-- whether the caller at a place is
abbrev pub is_done_at : List InvokedState → ℕ → Bool
is_done_at callers place = is_done_if (slice_get callers place)

-- a caller that was done is done
abbrev pub StaysDone : CallerState → CallerState → Type 0
StaysDone old new = is_done old ≡ true → is_done new ≡ true

-- those that were done are done
abbrev pub KeepsDone : List InvokedState → List InvokedState → Type 0
KeepsDone old new = (place : ℕ) → is_done_at old place ≡ true → is_done_at new place ≡ true

-- a list is another without some of what a test is true of, in its order
pub data LeavesOut (test : ℕ → Bool) : List ℕ → List ℕ → Type 0 where
  no_more : LeavesOut test [] []
  has_both : (x : ℕ) (xs ys : List ℕ) → LeavesOut test xs ys → LeavesOut test (x ∷ xs) (x ∷ ys)
  leaves : (y : ℕ) (xs ys : List ℕ) → test y ≡ true → LeavesOut test xs ys → LeavesOut test xs (y ∷ ys)

-- the same for whatever else is kept, where only the nodes and the callers change
abbrev pub PlaysCallers : (Stage → Part Stage) → List InvokedState → List InvokedState → NodesState → NodesState
    → Option Stop → Told → Told → Type 0
PlaysCallers part old new nodes_old nodes_new stop before after =
    (w : WorldState) → w.nodes ≡ nodes_old → w.callers ≡ old
    → Plays part w (record w { nodes = nodes_new; callers = new }) stop before after
