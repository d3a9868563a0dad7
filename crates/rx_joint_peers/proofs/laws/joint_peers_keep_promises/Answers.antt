use Rattle.rx_joint_peers.proofs.World.{standing_law, standing_world}
use Rattle.rx_joint_peers.proofs.laws.joint_peers_keep_promises.Goals as goal

pub returns-clause-world : goal.returns-clause-world
returns-clause-world c = standing_world

pub returns-clause-law : goal.returns-clause-law
returns-clause-law c = standing_law
