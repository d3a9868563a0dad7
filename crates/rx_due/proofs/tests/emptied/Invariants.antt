use Rattle.rx_due.proofs.tests.emptied.Given as goal

abbrev pub ghosts-emptied_counted : goal.ghosts-emptied_counted
ghosts-emptied_counted a = record { name = a.blank.name; parts = a.blank.parts }
