use Rattle.rx_call_ends.proofs.ends.tests.clear.Given as goal

abbrev pub ghosts-clear_counted : goal.ghosts-clear_counted
ghosts-clear_counted a = record { name = a.blank.name; parts = a.blank.parts }
