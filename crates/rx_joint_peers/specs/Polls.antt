-- What a poll of a peer makes. Public clauses cite this module.
use Rattle.std.specs.Prelude.{◌≡◌, ℕ, List, Option, None, Some, take}
use Rattle.rx_model.specs.declared.event.Event.{Event}
use Rattle.rx_model.specs.declared.event.Event.TheVariants as events
use Rattle.rx_model.specs.declared.names.Host.{Host}
use Rattle.rx_peer.specs.declared.role.Role.{Role}
use Rattle.rx_peer.specs.declared.role.Role.TheVariants as roles
use Rattle.rx_events.specs.Events.{IsPolled}
use Rattle.rx_joint_peers.specs.declared.joint.PeerAt.{PeerAt}
use Rattle.rx_joint_peers.specs.declared.joint.wires.PolledBy.{PolledBy}
use Rattle.rx_joint_peers.specs.declared.joint.wires.PolledBy.TheVariants as polls
use Rattle.rx_joint_peers.specs.Joint.{Makes, MakesBoth}

-- a poll that gave a datagram
abbrev pub IsGiven : Event → Type 0
IsGiven (events.Polled (Some datagram)) = Unit {0}
IsGiven _ = ⊥

-- the caller half gave a datagram, and no event of the served half came; or it gave none, and then the served half was
-- polled
abbrev pub MakesPolls : List PeerAt → List PeerAt → ℕ → PolledBy → Type 0
MakesPolls old new number (polls.Caller calls) = Makes old new number roles.Caller calls × IsGiven calls
MakesPolls old new number (polls.Both calls serves) =
    MakesBoth old new number calls serves × (calls ≡ events.Polled None) × IsPolled serves

-- ---- what the code of a poll gives

-- its events, by what it gave and the first bytes of its buffer
abbrev pub polled_by : Option (Role × Host × ℕ) → List ℕ → PolledBy
polled_by (Some (roles.Caller, host, count)) to = polls.Caller (events.Polled (Some (host, take count to)))
polled_by (Some (roles.Served, host, count)) to =
    polls.Both (events.Polled None) (events.Polled (Some (host, take count to)))
polled_by None to = polls.Both (events.Polled None) (events.Polled None)

-- they are made
abbrev pub MakesPolled : List PeerAt → List PeerAt → ℕ → Option (Role × Host × ℕ) → List ℕ → Type 0
MakesPolled old new number got to = MakesPolls old new number (polled_by got to)
