use Rattle.std.proofs.Common.{◌≡◌, None, ap, rules, true}
use Rattle.rx_drive.specs.Ran.{stop_of}
use Rattle.rx_drive.specs.Tells.{Ways}
use Rattle.rx_wire_loop.specs.Ports.{PortsState}
use Rattle.rx_wire_loop.specs.Tells.{sink_tells, wire_tells}
use Rattle.rx_wire_loop.proofs.Handed.{clock_driven, clock_refuses, refused_wants}
use Rattle.rx_wire_loop.proofs.Taking.{Anything}
use Rattle.rx_wire_loop.proofs.ports.Ports.clock.Goals as goal

pub returns-clause-plays : goal.returns-clause-plays
returns-clause-plays g c =
    let names = ap (λ (w : Ways). w.names) c.clock.ensures.ways in
    let same : c.clock.new.outside.book.now ≡ c.book-1.given.0 = search rules in
    λ sink. rw (← ap (λ (v : PortsState). v.node) c.self.view_is) (rw (← same)
    (clock_driven c.self.inside.node _ _ _ _ _ _ _ sink c.now.result (stop_of c.clock.result) c.now.ensures.value
    c.clock.ensures.clocks))

pub returns-clause-refused : goal.returns-clause-refused
returns-clause-refused g c =
    clock_refuses c.self.inside.node _ _ _ _ _ Anything c.clock.result c.requires
    (clock_driven c.self.inside.node _ _ _ _ _ _ (wire_tells (g.W.Wire.told c.args.wire.now)
    (g.W.Wire.faults c.args.wire.now) (g.W.Wire.moment c.args.wire.now)) (sink_tells None 0) c.now.result
    (stop_of c.clock.result) c.now.ensures.value c.clock.ensures.clocks)

pub returns-clause-wants : goal.returns-clause-wants
returns-clause-wants g c =
    refused_wants c.clock.result (g.J.Journal.may_want ≡ true) (returns-clause-refused g c) c.clock.ensures.wants
