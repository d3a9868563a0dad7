-- What a line names: a peer, a call, a datagram. Public clauses cite this module.
use Rattle.std.specs.Prelude.{ℕ, Bool, Option, Some, None, is_some}
use Rattle.rx_law.specs.Worlds.{Datagram}
use Rattle.rx_peer.specs.PeerWorlds.{PeerNode, peer_at}
use Rattle.rx_peer_plan.specs.declared.call.PeerCall.{PeerCall}
use Rattle.rx_peer_plan.specs.Stages.{PeerStage}
use Rattle.rx_plan.specs.Finds.{numbered, where_true}
use Rattle.rx_plan.specs.Parts.{Part, Refused, ends}
use Rattle.rx_script.specs.declared.outcome.PlanWhy.{PlanWhy}
use Rattle.rx_script.specs.declared.outcome.PlanWhy.TheVariants as causes

-- something that is there, or a refusal
abbrev pub found_or : {X S : Type 0} → PlanWhy → (X → S → Part S) → Option X → S → Part S
found_or why next None s = ends (Refused why)
found_or why next (Some x) s = next x s

-- a peer that is there
abbrev pub at_peer : ℕ → (PeerNode → PeerStage → Part PeerStage) → PeerStage → Part PeerStage
at_peer number next s = found_or causes.NoNode next (peer_at s.peers number) s

-- a peer with this number is there
abbrev pub is_peer : ℕ → PeerStage → Bool
is_peer number s = is_some (peer_at s.peers number)

-- a call of a peer that is there
abbrev pub where_there : PeerStage → Option PeerCall → Option PeerCall
where_there s None = None
where_there s (Some c) = where_true (is_peer c.peer s) c

-- the call #K
abbrev pub at_call : ℕ → (PeerCall → PeerStage → Part PeerStage) → PeerStage → Part PeerStage
at_call k next s = found_or causes.NoCall next (where_there s (numbered s.calls k)) s

-- the datagram %K
abbrev pub at_packet : ℕ → (Datagram → PeerStage → Part PeerStage) → PeerStage → Part PeerStage
at_packet k next s = found_or causes.NoPacket next (numbered s.packets k) s
