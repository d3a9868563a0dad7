use Rattle.std.proofs.Common.{inr}
use Rattle.rx_stage.specs.Tells.{Told}
use Rattle.xg_check.specs.Meaning.{interface_of}
use Rattle.rx_top.specs.Inputs.{Reads}
use Rattle.rx_top.specs.Sims.{ScriptIs}
use Rattle.rx_top.proofs.OutsideLemmas.{counts_then, plan_goes_on}
use Rattle.rx_top.proofs.SimLemmas.{interface_opcodes}
use Rattle.rx_top.proofs.sim.sim.Goals as goal

pub sim_over-requires : goal.sim_over-requires
sim_over-requires g c = interface_opcodes _ _ _ c.in-Ok.ensures.ok

pub returns-in-Ok-clause-sim : goal.returns-in-Ok-clause-sim
returns-in-Ok-clause-sim g c =
    let told = g.X.Surroundings.told in
    let was = c.in-Ok.ensures in
    inr (
      interface_of c.in-Ok.iface,
      was.ok,
      plan_goes_on (λ (r : Reads) (a b : Told). ScriptIs (interface_of c.in-Ok.iface) c.args.names.now
          c.sim_over.result r a b) c.args.names.now.xg (told c.args.x.now) (told c.named_interface.new.x)
          (told c.sim_over.new.x) was.counts was.only was.reads c.sim_over.ensures.sim,
    )

pub returns-in-Ok-clause-counts : goal.returns-in-Ok-clause-counts
returns-in-Ok-clause-counts g c = counts_then _ _ _ _ c.in-Ok.ensures.counts c.sim_over.ensures.counts
