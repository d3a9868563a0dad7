use Rattle.std.proofs.Common.{inr}
use Rattle.rx_script.specs.Saying.{blocks_of}
use Rattle.rx_stage.specs.Tells.{Told}
use Rattle.xg_check.specs.Meaning.{interface_of}
use Rattle.rx_top.specs.Inputs.{Reads}
use Rattle.rx_top.specs.Sims.{PlanIs}
use Rattle.rx_top.proofs.OutsideLemmas.{counts_then, plan_goes_on}
use Rattle.rx_top.proofs.SimLemmas.{script_codes, script_waits}
use Rattle.rx_top.proofs.sim.sim_over.Goals as goal

pub sim_with-requires-clause-servable : goal.sim_with-requires-clause-servable
sim_with-requires-clause-servable g c =
    record {
      sound = c.args.iface.now.sound;
      opcodes = c.requires;
      codes = script_codes c.scripts_answer_no_zero.ensures _ (interface_of c.args.iface.now) _ _ c.in-Ok.ensures.ok;
    }

pub sim_with-requires-clause-short : goal.sim_with-requires-clause-short
sim_with-requires-clause-short g c =
    script_waits c.scripts_wait_shortly.ensures _ (interface_of c.args.iface.now) _ _ c.in-Ok.ensures.ok

pub returns-in-Ok-clause-sim : goal.returns-in-Ok-clause-sim
returns-in-Ok-clause-sim g c =
    let told = g.X.Surroundings.told in
    let was = c.in-Ok.ensures in
    inr (
      blocks_of c.in-Ok.script.blocks.items,
      was.ok,
      plan_goes_on (λ (r : Reads) (a b : Told). PlanIs (interface_of c.args.iface.now)
          (blocks_of c.in-Ok.script.blocks.items) c.args.names.now.plan c.sim_with.result r a b)
          c.args.names.now.script (told c.args.x.now) (told c.named_script.new.x) (told c.sim_with.new.x) was.counts
          was.only was.reads (rw c.as_str.ensures at c.sim_with.ensures.sim),
    )

pub returns-in-Ok-clause-counts : goal.returns-in-Ok-clause-counts
returns-in-Ok-clause-counts g c = counts_then _ _ _ _ c.in-Ok.ensures.counts c.sim_with.ensures.counts
