use Rattle.rx_wire_loop.specs.Tells.{sink_tells}
use Rattle.rx_top.proofs.around.AroundSurroundings.call.Goals as goal

pub returns-clause-calls : goal.returns-clause-calls
returns-clause-calls g c =
    c.call.ensures.calls (sink_tells (g.O.Sink.told c.args.self.now.out.now) (g.O.Sink.faults c.args.self.now.out.now))
