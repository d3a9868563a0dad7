-- What the peers are once one that they lent comes back. Public clauses cite this module.
use Rattle.std.specs.Prelude.{ℕ, List}
use Rattle.std.specs.Borrow.{Lends, MutBor, Fml}
use Rattle.rx_class.specs.contracts.null.Null.{the_row as null_row}
use Rattle.rx_class.specs.contracts.null.NullClass.TheImpl as classes
use Rattle.rx_class.specs.declared.null.Null.{Null}
use Rattle.rx_peer.specs.declared.peer.Peer.{Peer}
use Rattle.rx_peer.specs.contracts.peer.Peer.{the_row as peer_row}
use Rattle.rx_joint_peers.specs.contracts.joint.JointPeers.{the_row}
use Rattle.rx_joint_peers.specs.declared.joint.PeerAt.{PeerAt}
use Rattle.rx_joint_peers.specs.Joint.{with_peer}

-- they end with what is left of a peer
abbrev pub LendsPeer : MutBor (List PeerAt) → ℕ → MutBor (Peer Null) → Fml
LendsPeer ps number r = Lends the_row (peer_row null_row classes.ghosts) ps r (with_peer ps.now number)
