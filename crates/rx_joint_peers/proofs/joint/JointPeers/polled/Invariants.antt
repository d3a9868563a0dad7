use Rattle.rx_joint_peers.proofs.joint.JointPeers.polled.Given as goal

abbrev pub ghosts-polled_counted : goal.ghosts-polled_counted
ghosts-polled_counted a = record { name = a.blank.name; parts = a.blank.parts }
