-- A joint history of several nodes, and the side of each. Public clauses cite this module.
use Rattle.std.specs.Prelude.{◌≡◌, ◌==◌, if◌then◌else◌, ℕ, List, [], ◌∷◌, Some}
use Rattle.rx_model.specs.declared.event.Event.{Event}
use Rattle.rx_model.specs.declared.event.Event.TheVariants.{Clocked, Polled}
use Rattle.rx_model.specs.declared.event.Noted.{Noted}
use Rattle.rx_model.specs.declared.names.Host.{Host}
use Rattle.rx_rules.specs.Setup.{Setup, Kind, Server, Client}

-- a node: its address, and how it is set up
pub record Node : Type 0 where
  pub host : Host
  pub setup : Setup

-- the events of one node
abbrev pub side : ℕ → List Noted → List Event
side n [] = []
side n (e ∷ h) = if e.node == n then e.event ∷ side n h else side n h

-- a clock event sets the moment
abbrev pub with_clock : Event → ℕ → ℕ
with_clock (Clocked now) before = now
with_clock _ before = before

-- the moment of a node
abbrev pub moment : ℕ → List Noted → ℕ
moment n [] = 0
moment n (e ∷ h) = if e.node == n then with_clock e.event (moment n h) else moment n h

-- an event gave this datagram for a host
abbrev pub GivesTo : Host → List ℕ → Event → Type 0
GivesTo to bytes (Polled (Some (host, datagram))) = (host ≡ to) × (datagram ≡ bytes)
GivesTo to bytes _ = ⊥

-- a client has its own address in its names
abbrev pub IsClientAt : Host → Kind → Type 0
IsClientAt at (Client host epoch) = host ≡ at
IsClientAt at (Server service nonces) = ⊥
