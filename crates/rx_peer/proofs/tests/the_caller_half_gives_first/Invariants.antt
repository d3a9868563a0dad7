use Rattle.rx_peer.proofs.tests.the_caller_half_gives_first.Given as goal

abbrev pub ghosts-givers : goal.ghosts-givers
ghosts-givers g a = record { name = a.blank.name; parts = a.blank.parts }
