-- Codes of lines, and an invoke before which memory is wanted.
use Rattle.std.proofs.Common.{◌≡◌, ℕ, ℤ, List, [], Option, subst}
use Rattle.rx_script.specs.declared.outcome.PlanWhy.TheVariants as causes
use Rattle.rx_stage.specs.declared.stop.Stop.{Stop}
use Rattle.rx_plan.specs.Finds.{at_client, client_at}
use Rattle.rx_plan.specs.Lines.{IsInvoked, invokes, with_called, with_caller}
use Rattle.rx_plan.specs.Parts.{Cut, Part, To}
use Rattle.rx_stage.specs.Shown.{Plays, WorldState}
use Rattle.rx_plan.specs.Stages.{Stage, name_called}
use Rattle.rx_stage.specs.Tells.{Told}
use Rattle.rx_stage.proofs.Making.{event_with_cut, named_cut}

-- a code that is this one
pub code_is : (part : ℤ → Stage → Part Stage) (given code : ℤ) (w new : WorldState) (stop : Option Stop) (a b : Told)
    → given ≡ code → Plays (part given) w new stop a b → Plays (part code) w new stop a b
code_is part given code w new stop a b same plays = subst (λ z. Plays (part z) w new stop a b) same plays

-- memory is wanted before an invoke
pub invoke_cut : (client place cid : ℕ) (bytes : List ℕ) (s : Stage)
    → at_client client (invokes place cid bytes) s [] Cut
invoke_cut client place cid bytes s =
    named_cut causes.NoNode (invokes place cid bytes) (client_at client)
    (λ x t. event_with_cut x (IsInvoked cid bytes)
    (λ e u. To (with_caller x place bytes (name_called e) (with_called x e u))) t) s
