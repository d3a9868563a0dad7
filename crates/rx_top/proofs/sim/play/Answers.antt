use Rattle.std.proofs.Common.{refl}
use Rattle.rx_script.specs.Saying.{blocks_of}
use Rattle.xg_check.specs.Meaning.{interface_of}
use Rattle.rx_top.specs.Sims.{handlers_with}
use Rattle.rx_top.proofs.OutsideLemmas.{counts_plan, counts_plan_fault}
use Rattle.rx_top.proofs.SimLemmas.{run_faults, run_plays}
use Rattle.rx_top.proofs.sim.play.Goals as goal

pub run-requires : goal.run-requires
run-requires g c =
    c.plans_are_well.ensures (handlers_with (interface_of c.args.iface.now) (blocks_of c.args.script.blocks.items))
    c.requires.read.0 c.args.plan.now.lines.items c.requires.read.1

pub returns-in-Ran-clause-played : goal.returns-in-Ran-clause-played
returns-in-Ran-clause-played g c =
    let law = c.plans_answer_as_served.ensures in
    run_plays c.plans_are_well.ensures law.ok law.ended law.caused law.aborted (interface_of c.args.iface.now)
    (blocks_of c.args.script.blocks.items) _ _ _ _ c.requires.servable c.requires.short
    c.requires.read c.in-Ran.ensures.run
    c.in-Ran.ensures.headline c.in-Ran.ensures.arrives c.in-Ran.ensures.completes
    c.in-Ran.ensures.closes c.in-Ran.ensures.all_close

pub returns-in-Ran-clause-counts : goal.returns-in-Ran-clause-counts
returns-in-Ran-clause-counts g c =
    counts_plan _ _ _ refl c.in-Ran.ensures.only (run_faults _ _ _ _ _ c.in-Ran.ensures.run)

pub returns-in-Refused-clause-played : goal.returns-in-Refused-clause-played
returns-in-Refused-clause-played g c =
    let law = c.plans_answer_as_served.ensures in (
      refl,
      run_plays c.plans_are_well.ensures law.ok law.ended law.caused law.aborted (interface_of c.args.iface.now)
          (blocks_of c.args.script.blocks.items) _ _ _ _ c.requires.servable c.requires.short
          c.requires.read c.in-Refused.ensures.run
          c.in-Refused.ensures.headline c.in-Refused.ensures.arrives c.in-Refused.ensures.completes
          c.in-Refused.ensures.closes c.in-Refused.ensures.all_close,
    )

pub returns-in-Refused-clause-counts : goal.returns-in-Refused-clause-counts
returns-in-Refused-clause-counts g c =
    counts_plan _ _ _ refl c.in-Refused.ensures.only (run_faults _ _ _ _ _ c.in-Refused.ensures.run)

pub returns-in-SinkFault-clause-played : goal.returns-in-SinkFault-clause-played
returns-in-SinkFault-clause-played g c =
    let law = c.plans_answer_as_served.ensures in
    run_plays c.plans_are_well.ensures law.ok law.ended law.caused law.aborted (interface_of c.args.iface.now)
    (blocks_of c.args.script.blocks.items) _ _ _ _ c.requires.servable c.requires.short
    c.requires.read c.in-SinkFault.ensures.run
    c.in-SinkFault.ensures.headline c.in-SinkFault.ensures.arrives c.in-SinkFault.ensures.completes
    c.in-SinkFault.ensures.closes c.in-SinkFault.ensures.all_close

pub returns-in-SinkFault-clause-counts : goal.returns-in-SinkFault-clause-counts
returns-in-SinkFault-clause-counts g c =
    counts_plan_fault _ _ c.in-SinkFault.ensures.only (run_faults _ _ _ _ _ c.in-SinkFault.ensures.run)

pub returns-in-OutOfMemory-clause-played : goal.returns-in-OutOfMemory-clause-played
returns-in-OutOfMemory-clause-played g c =
    let law = c.plans_answer_as_served.ensures in
    run_plays c.plans_are_well.ensures law.ok law.ended law.caused law.aborted (interface_of c.args.iface.now)
    (blocks_of c.args.script.blocks.items) _ _ _ _ c.requires.servable c.requires.short
    c.requires.read c.in-OutOfMemory.ensures.run
    c.in-OutOfMemory.ensures.headline c.in-OutOfMemory.ensures.arrives c.in-OutOfMemory.ensures.completes
    c.in-OutOfMemory.ensures.closes c.in-OutOfMemory.ensures.all_close

pub returns-in-OutOfMemory-clause-counts : goal.returns-in-OutOfMemory-clause-counts
returns-in-OutOfMemory-clause-counts g c =
    counts_plan _ _ _ refl c.in-OutOfMemory.ensures.only (run_faults _ _ _ _ _ c.in-OutOfMemory.ensures.run)
