use Rattle.std.proofs.Common.{◌≡◌, []}
use Rattle.rx_dispatch.specs.States.{state_of}
use Rattle.rx_node.specs.Node.{setup_of}
use Rattle.rx_wire_loop.specs.Ports.{AreReady}
use Rattle.rx_wire_loop.specs.Tells.{sink_tells, told, wire_tells}
use Rattle.rx_wire_loop.proofs.Passing.{SoFar, terms_by}
use Rattle.rx_server.specs.Server.{Stands}
use Rattle.rx_wire_loop.proofs.serving.ServedNode.passes.Given as goal

-- so many passes were made and told, and the server is behind them
abbrev pub invariant-loop-taken : goal.invariant-loop-taken
invariant-loop-taken g l = record {
  so : SoFar (terms_by l.fn.iface (state_of l.fn.self.dispatcher).script (setup_of g.C.Class.class_of
      l.fn.self.server.node)
      l.fn.self.ports.joiner.most l.fn.turns l.fn.end)
      (record { history = []; now = g.W.Wire.moment l.fn.wire }) l.taken (state_of l.self.dispatcher).round.jobs
      (Stands g.C.Class.class_of l.self.server)
      (told (g.J.Journal.told l.fn.book) (sink_tells (g.O.Sink.told l.fn.out) (g.O.Sink.faults l.fn.out))
      (wire_tells (g.W.Wire.told l.fn.wire) (g.W.Wire.faults l.fn.wire) (g.W.Wire.moment l.fn.wire)))
      (told (g.J.Journal.told l.book) (sink_tells (g.O.Sink.told l.out) (g.O.Sink.faults l.out))
      (wire_tells (g.W.Wire.told l.wire) (g.W.Wire.faults l.wire) (g.W.Wire.moment l.wire)));
  ready : AreReady 0 l.self.ports.joiner.most l.self.ports;
  most : l.self.ports.joiner.most ≡ l.fn.self.ports.joiner.most;
  script : (state_of l.self.dispatcher).script ≡ (state_of l.fn.self.dispatcher).script;
  setup : setup_of g.C.Class.class_of l.self.server.node ≡ setup_of g.C.Class.class_of l.fn.self.server.node;
}
