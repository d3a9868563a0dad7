use Rattle.std.proofs.Common.{inr}
use Rattle.rx_stage.specs.Tells.{Told}
use Rattle.rx_top.specs.Inputs.{Reads, said_of}
use Rattle.rx_top.specs.Sims.{InterfaceIs}
use Rattle.rx_top.proofs.OutsideLemmas.{plan_said, says_behind}
use Rattle.rx_top.proofs.top.do_sim.Goals as goal

pub returns-clause-sim : goal.returns-clause-sim
returns-clause-sim g c =
    let told = g.X.Surroundings.told in
    let was = c.sim-outcome.ensures in (
      c.sim-outcome.result,
      c.status.ensures,
      inr (plan_said (λ (r : Reads) (a b : Told). InterfaceIs c.args.names.now c.sim-outcome.result r a b)
          (told c.args.x.now) (told c.sim-outcome.new.x) (told c.say_outcome.new.x) c.say_outcome.ensures.only was.sim),
      says_behind (told c.args.x.now) (told c.sim-outcome.new.x) (told c.say_outcome.new.x)
          (said_of c.sim-outcome.result) was.silent c.say_outcome.ensures.said,
    )
