-- Rounds by the handlers of the same script.
use Rattle.std.proofs.Common.{◌≡◌, List, Option, subst}
use Rattle.rx_jobs.specs.Handlers.{Handlers}
use Rattle.rx_script.specs.Saying.{Answering}
use Rattle.rx_stage.specs.declared.stop.Stop.{Stop}
use Rattle.rx_plan.specs.Rounds.{round}
use Rattle.rx_stage.specs.Shown.{Plays, WorldState}
use Rattle.rx_stage.specs.Tells.{Told}

pub round_by : (hs : List Answering → Handlers) (now old : List Answering) (w new : WorldState) (stop : Option Stop)
    (a b : Told) → now ≡ old → Plays (round (hs now)) w new stop a b → Plays (round (hs old)) w new stop a b
round_by hs now old w new stop a b same plays = subst (λ s. Plays (round (hs s)) w new stop a b) same plays
