-- What a run of a plan promises.
use Rattle.std.proofs.Common.{List, All}
use Rattle.rx_script.specs.declared.outcome.Outcome.{Outcome}
use Rattle.rx_script.specs.declared.plan.Numbered.{Numbered}
use Rattle.rx_jobs.specs.Handlers.{Handlers}
use Rattle.rx_plan.specs.Lines.{IsWell}
use Rattle.rx_plan.proofs.Givings.Promised.{plan_promises}
use Rattle.rx_plan.proofs.Soundness.SoundPlan.{lines_in_range}
use Rattle.rx_stage.specs.Runs.{KeepsPromises}
use Rattle.rx_stage.specs.Tells.{Told}
use Rattle.rx_stage.proofs.ToldEvents.{plan_told}

-- of lines as the reader of plans gives them the events are promised, and each event is one that its line tells
pub run_keeps : (g : Handlers) (ls : List Numbered) (outcome : Outcome) (old new : Told)
    → All (λ l. IsWell g l.what) ls → KeepsPromises g ls outcome old new
run_keeps g ls outcome old new well r = (
  plan_promises g ls r.events r.went (lines_in_range g ls well) r.goes,
  plan_told g ls outcome old new (lines_in_range g ls well) r,
)
