use Rattle.rx_peer.proofs.Kept.{peer_law}
use Rattle.rx_peer.proofs.laws.peers_keep_promises.Goals as goal

pub returns : goal.returns
returns c = peer_law
