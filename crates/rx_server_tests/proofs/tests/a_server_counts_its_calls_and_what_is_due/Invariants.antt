use Rattle.rx_server_tests.proofs.tests.a_server_counts_its_calls_and_what_is_due.Given as goal

abbrev pub ghosts-first_wrong : goal.ghosts-first_wrong
ghosts-first_wrong g a = record { name = a.blank.name; parts = a.blank.parts }
