-- What is followed of a driven plan whose lines were all made.
use Rattle.std.proofs.Common.{List, All}
use Rattle.rx_model.specs.declared.event.Noted.{Noted}
use Rattle.rx_jobs.specs.Handlers.{Handlers}
use Rattle.rx_script.specs.declared.plan.Numbered.{Numbered}
use Rattle.rx_plan.specs.Answering.{AreDriven}
use Rattle.rx_plan.specs.Follows.{Whole, plan_goes}
use Rattle.rx_plan.specs.Lines.{IsWell}
use Rattle.rx_plan.specs.Stages.{Stage}
use Rattle.rx_plan.proofs.Driven.{seen}
use Rattle.rx_plan.proofs.Followed.{AtInvoke, IsFollowed, asked_by, followed}
use Rattle.rx_plan.proofs.Following.{empty_followed}
use Rattle.rx_plan.proofs.PlanCarries.{plan_carries}

pub plan_follows : (g : Handlers) (ls : List Numbered) (es : List Noted) (s : Stage) → All (λ l. IsWell g l.what) ls
    → AreDriven ls → plan_goes g ls es (Whole s) → IsFollowed g ls (seen s)
plan_follows g ls = plan_carries g ls (IsFollowed g ls) (followed g ls)
    (empty_followed g (AtInvoke g ls) (asked_by g ls))
