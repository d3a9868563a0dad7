-- What is said of the steps that the jobs of calls wait, as premises.
use Rattle.std.proofs.Common.{◌≤◌, ℕ, List}
use Rattle.rx_model.specs.declared.names.CallName.{CallName}
use Rattle.rx_history.specs.Sides.{Node}
use Rattle.rx_script.specs.declared.plan.Numbered.{Numbered}
use Rattle.rx_jobs.specs.Handlers.{Handlers, wait_of}
use Rattle.rx_plan.specs.Answering.{request_for}
use Rattle.rx_plan.specs.Stages.{Stage}
use Rattle.rx_plan.specs.Turned.{dispatches}
use Rattle.rx_plan.proofs.Driven.{seen}
use Rattle.rx_plan.proofs.Followed.{IsFollowed}
use Rattle.rx_rounds.proofs.Rounded.{Made}
use Rattle.rx_closing.proofs.Far.FarWork.{IsCaused}
use Rattle.rx_closing.proofs.Far.Waited.{IsJobLow, job_of, waited}
use Rattle.rx_closing.proofs.Frame.{OneOf, served_in}

-- no job waits more steps than its script has it wait for the request; and a turn of the dispatcher leaves none with
-- less
pub record JobsGo (g : Handlers) (ls : List Numbered) (server : Node) : Type 0 where
  pub low :
      (c : CallName) (k : ℕ) (client : Node) (s : Stage) → OneOf c k client server s → IsFollowed g ls (seen s)
      → (i : IsCaused g ls c k client s) → IsJobLow (wait_of g (request_for g i.caller.origin.invoke)) (job_of c s.jobs)
  pub grows :
      (c : CallName) (k : ℕ) (client : Node) (s t : Stage) → OneOf c k client server s → IsFollowed g ls (seen s)
      → (i : IsCaused g ls c k client s) → Made (dispatches g) s t
      → waited (wait_of g (request_for g i.caller.origin.invoke)) c (served_in c server s) s.jobs
      ≤ waited (wait_of g (request_for g i.caller.origin.invoke)) c (served_in c server t) t.jobs
