use Rattle.rx_joint.proofs.nodes.Nodes.least_wait.Given as goal

abbrev pub ghosts-least_wait_counted : goal.ghosts-least_wait_counted
ghosts-least_wait_counted a = record { name = a.blank.name; parts = a.blank.parts }
