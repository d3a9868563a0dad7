use Rattle.std.proofs.Common.{◌≡◌, None}
use Rattle.rx_wire_loop.specs.Runs.{Plays, change}
use Rattle.rx_wire_loop.specs.Tells.{SinkTells, told, wire_tells}
use Rattle.rx_wire_loop.proofs.Polling.{Anyhow, polls_so}
use Rattle.rx_wire_loop.proofs.ports.Ports.give_due.Given as goal

-- the polls made so far gave what was given and what is held back
abbrev pub invariant-polls : goal.invariant-polls
invariant-polls g l = record {
  plays : (sink : SinkTells) → Plays (change l.fn.self.node (g.N.Endpoint.setup l.fn.node)
      (g.N.Endpoint.stands l.fn.node) (g.N.Endpoint.stands l.node)
      (told (g.J.Journal.told l.fn.book) sink (wire_tells (g.W.Wire.told l.fn.wire) (g.W.Wire.faults l.fn.wire)
      (g.W.Wire.moment l.fn.wire)))
      (told (g.J.Journal.told l.book) sink (wire_tells (g.W.Wire.told l.wire) (g.W.Wire.faults l.wire)
      (g.W.Wire.moment l.wire)))) (polls_so l.fn.self.joiner.most l.self.joiner l.given) Anyhow None;
  most : l.self.joiner.most ≡ l.fn.self.joiner.most;
  number : l.self.node ≡ l.fn.self.node;
  setup : g.N.Endpoint.setup l.node ≡ g.N.Endpoint.setup l.fn.node;
}
