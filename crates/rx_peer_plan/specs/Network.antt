-- What a network between peers carries: a datagram that is delivered comes to the peer with its host, by the half that
-- it is for. Public clauses cite this module.
use Rattle.std.specs.Prelude.{ℕ, Bool, false, option_map, unwrap_or}
use Rattle.rx_events.specs.Events.{IsTaken}
use Rattle.rx_law.specs.Worlds.{Datagram}
use Rattle.rx_model.specs.Names.{same_host}
use Rattle.rx_peer.specs.Roles.{half_of, node_of}
use Rattle.rx_peer_plan.specs.Stages.{PeerStage, event, host_at, numbers}
use Rattle.rx_plan.specs.Parts.{Part, To, by_test, each, ends}

-- the datagram is for a peer
abbrev pub is_for : Datagram → PeerStage → ℕ → Bool
is_for d s number = unwrap_or (option_map (same_host d.to) (host_at s number)) false

-- a peer takes it, where it is for that peer
abbrev pub comes_to : Datagram → ℕ → PeerStage → Part PeerStage
comes_to d number s =
    by_test (is_for d s number) (event (node_of (half_of d.bytes) number) (IsTaken d.from d.bytes) s) (ends (To s))

-- each peer that it is for takes it
abbrev pub delivers : Datagram → PeerStage → Part PeerStage
delivers d s = each (comes_to d) (numbers s) s
