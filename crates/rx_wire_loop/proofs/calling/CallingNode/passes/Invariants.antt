use Rattle.std.proofs.Common.{◌≡◌, None}
use Rattle.rx_node.specs.Node.{setup_of}
use Rattle.rx_node.specs.Steps.{StandsNode}
use Rattle.rx_wire_loop.specs.Parts.{Place}
use Rattle.rx_wire_loop.specs.Ports.{AreReady}
use Rattle.rx_wire_loop.specs.Runs.{IsAt}
use Rattle.rx_wire_loop.specs.Tells.{SinkTells, told, wire_tells}
use Rattle.rx_wire_loop.proofs.Callings.{CallSoFar, call_terms_by}
use Rattle.rx_wire_loop.proofs.calling.CallingNode.passes.Given as goal

-- so many passes were made and told, the client is behind them, and the call isn't ended
abbrev pub invariant-loop-taken : goal.invariant-loop-taken
invariant-loop-taken g l = record {
  so : (sink : SinkTells) (p : Place) → IsAt (setup_of g.C.Class.class_of l.fn.self.client)
      (StandsNode g.C.Class.class_of l.fn.self.client) (told (g.J.Journal.told l.fn.book) sink
      (wire_tells (g.W.Wire.told l.fn.wire) (g.W.Wire.faults l.fn.wire) (g.W.Wire.moment l.fn.wire))) p
      → CallSoFar (call_terms_by (setup_of g.C.Class.class_of l.fn.self.client) l.fn.self.ports.joiner.most l.fn.turns)
      l.fn.self.caller p l.taken l.self.caller (StandsNode g.C.Class.class_of l.self.client)
      (told (g.J.Journal.told l.fn.book) sink
      (wire_tells (g.W.Wire.told l.fn.wire) (g.W.Wire.faults l.fn.wire) (g.W.Wire.moment l.fn.wire)))
      (told (g.J.Journal.told l.book) sink
      (wire_tells (g.W.Wire.told l.wire) (g.W.Wire.faults l.wire) (g.W.Wire.moment l.wire)));
  ready : AreReady 1 l.self.ports.joiner.most l.self.ports;
  most : l.self.ports.joiner.most ≡ l.fn.self.ports.joiner.most;
  setup : setup_of g.C.Class.class_of l.self.client ≡ setup_of g.C.Class.class_of l.fn.self.client;
  unended : l.self.caller.end ≡ None;
}
