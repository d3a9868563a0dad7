use Rattle.rx_jobs.specs.Handlers.{handlers_of}
use Rattle.rx_stage.specs.Ran.{stop_of}
use Rattle.rx_stage.specs.Shown.{script_of}
use Rattle.rx_stage.proofs.LinesGone.{other_made}
use Rattle.rx_stage.proofs.runs.Running.make_other.Goals as goal

pub returns-clause-made : goal.returns-clause-made
returns-clause-made g c =
    other_made (handlers_of c.args.iface.now (script_of c.args.self.now.world)) c.args.line.now c.args.place
    c.args.self.now c.line.new.self (stop_of c.line.result) _ _ c.line.ensures.plays
