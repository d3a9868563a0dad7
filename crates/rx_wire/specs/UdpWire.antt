-- What a contract sees of a `UdpWire`. Public clauses cite this module.
use Rattle.std.specs.Prelude.{ℕ, ◌≢◌, ◌≤◌, ◌+◌, ◌-◌, ◌*◌, ◌/◌, ⊤, Bool, Option, None}
use Rattle.rx_wire.specs.declared.udp_wire.Got.{Got}
use Rattle.rx_wire.specs.declared.udp_wire.Got.TheVariants as gots
use Rattle.rx_wire.specs.Wire.{Traffic}

-- a wire over a socket: whether it has one, the moment, how many calls failed, how long the socket's reads wait, in
-- milliseconds, or 0 where that isn't set yet, and whether a datagram came, or was taken by the system, since it was
-- bound
pub record UdpWireState : Type 0 where
  pub is_bound : Bool
  pub moment : ℕ
  pub faults : ℕ
  pub timeout : ℕ
  pub passed : Bool

-- what a wire tells that tells nothing of what it carries
abbrev pub untold : Option Traffic
untold = None

-- how long to wait from a moment for another, in whole steps of 4 milliseconds
abbrev pub timeout_for : ℕ → ℕ → ℕ
timeout_for moment until = ((until - moment) / 4 + 1) * 4

-- what came, if anything did, has at most so many bytes
abbrev pub IsGotWithin : ℕ → Got → Type 0
IsGotWithin most (gots.Came from count) = count ≤ most
IsGotWithin most gots.Late = ⊤
IsGotWithin most gots.Again = ⊤

-- what came, if anything did, can be answered: the port of its host isn't 0
abbrev pub IsAnswerable : Got → Type 0
IsAnswerable (gots.Came from count) = from.port ≢ 0
IsAnswerable gots.Late = ⊤
IsAnswerable gots.Again = ⊤
