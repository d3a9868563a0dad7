use Rattle.std.proofs.Common.{◌≡◌, ◌≤◌}
use Rattle.rx_wire.proofs.udp_wire.UdpWire.take_until.Given as goal

abbrev pub invariant-waits : goal.invariant-waits
invariant-waits g l = record {
  bound : l.self.is_bound ≡ l.fn.self.is_bound;
  faults : l.self.faults ≡ l.fn.self.faults;
  passed : l.self.passed ≡ l.fn.self.passed;
  later : l.fn.self.moment ≤ l.self.moment;
}
