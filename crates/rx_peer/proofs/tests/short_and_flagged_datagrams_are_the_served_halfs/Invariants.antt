use Rattle.rx_peer.proofs.tests.short_and_flagged_datagrams_are_the_served_halfs.Given as goal

abbrev pub ghosts-first_wrong : goal.ghosts-first_wrong
ghosts-first_wrong g a = record { name = a.blank.name; parts = a.blank.parts }
