use Rattle.rx_script.specs.Saying.{blocks_of}
use Rattle.rx_jobs.specs.Handlers.{handlers_of}
use Rattle.rx_world.proofs.RunKeeps.{run_all_close, run_arrives, run_closes, run_completes}
use Rattle.rx_world.proofs.runs.run.Goals as goal

pub returns-clause-arrives : goal.returns-clause-arrives
returns-clause-arrives g c =
    run_arrives c.plans_arrive.ensures (handlers_of c.args.iface.now (blocks_of c.args.script.blocks.items))
    c.args.plan.now.lines.items _ _ _ c.requires

pub returns-clause-completes : goal.returns-clause-completes
returns-clause-completes g c =
    run_completes c.plans_complete.ensures (handlers_of c.args.iface.now (blocks_of c.args.script.blocks.items))
    c.args.plan.now.lines.items _ _ _ c.requires

pub returns-clause-closes : goal.returns-clause-closes
returns-clause-closes g c =
    run_closes c.calls_close.ensures.plans (handlers_of c.args.iface.now (blocks_of c.args.script.blocks.items))
    c.args.plan.now.lines.items _ _ _ c.requires

pub returns-clause-all_close : goal.returns-clause-all_close
returns-clause-all_close g c =
    run_all_close c.all_close.ensures.plans (handlers_of c.args.iface.now (blocks_of c.args.script.blocks.items))
    c.args.plan.now.lines.items _ _ _ c.requires
