-- What the laws of rounds say of the run of a plan.
use Rattle.std.proofs.Common.{List, All}
use Rattle.rx_script.specs.declared.outcome.Outcome.{Outcome}
use Rattle.rx_script.specs.declared.plan.Numbered.{Numbered}
use Rattle.rx_jobs.specs.Handlers.{Handlers}
use Rattle.rx_plan.specs.Lines.{IsWell}
use Rattle.rx_rounds.specs.Arriving.{PlansArrive}
use Rattle.rx_rounds.specs.Completing.{PlansComplete}
use Rattle.rx_closing.specs.Ended.{PlansClose}
use Rattle.rx_closing.specs.EndedAll.{PlansCloseAll}
use Rattle.rx_stage.specs.Tells.{Told}
use Rattle.rx_world.specs.Runs.{AllClose, Arrives, Closes, Completes}

-- by the law of requests, one that such lines write arrives
pub run_arrives : PlansArrive → (g : Handlers) (ls : List Numbered) (outcome : Outcome) (old new : Told)
    → All (λ l. IsWell g l.what) ls → Arrives g ls outcome old new
run_arrives law g ls outcome old new well r offer n writes = law g ls r.events r.went offer n well writes r.goes

-- by that of invokes, one that they make comes to its end
pub run_completes : PlansComplete → (g : Handlers) (ls : List Numbered) (outcome : Outcome) (old new : Told)
    → All (λ l. IsWell g l.what) ls → Completes g ls outcome old new
run_completes law g ls outcome old new well r key n servable short invokes =
    law g ls key r.events r.went n servable short well invokes r.goes

-- by that of rounds behind losses, they end the one call that lives
pub run_closes : PlansClose → (g : Handlers) (ls : List Numbered) (outcome : Outcome) (old new : Told)
    → All (λ l. IsWell g l.what) ls → Closes g ls outcome old new
run_closes law g ls outcome old new well r servable short =
    law g ls r.events r.went servable short well r.goes

-- and by that of all calls, they end all that live, where there is room for them
pub run_all_close : PlansCloseAll → (g : Handlers) (ls : List Numbered) (outcome : Outcome) (old new : Told)
    → All (λ l. IsWell g l.what) ls → AllClose g ls outcome old new
run_all_close law g ls outcome old new well r servable short =
    law g ls r.events r.went servable short well r.goes
