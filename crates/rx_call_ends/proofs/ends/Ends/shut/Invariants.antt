use Rattle.rx_call_ends.proofs.ends.Ends.shut.Given as goal

abbrev pub ghosts-shut_counted : goal.ghosts-shut_counted
ghosts-shut_counted a = record { name = a.blank.name; parts = a.blank.parts }
