-- No job waits more steps than its script says, and a turn of the dispatcher leaves none with less.
use Rattle.std.proofs.Common.{List}
use Rattle.rx_history.specs.Sides.{Node}
use Rattle.rx_script.specs.declared.plan.Numbered.{Numbered}
use Rattle.rx_jobs.specs.Handlers.{Handlers}
use Rattle.rx_plan.specs.Answering.{AreServable}
use Rattle.rx_closing.proofs.Server.ServerScene.{scene_grows, scene_low}
use Rattle.rx_closing.proofs.Together.JobsGo.{JobsGo}

pub jobs_go : (g : Handlers) (ls : List Numbered) (server : Node) → AreServable g → JobsGo g ls server
jobs_go g ls server servable =
    record {
      low = λ c k client s one follows i. scene_low g ls c k client server s one follows servable i;
      grows = λ c k client s t one follows i made.
          (scene_grows g ls c k client server s one follows servable t made i).steps;
    }
