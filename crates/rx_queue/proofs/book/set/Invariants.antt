use Rattle.rx_queue.proofs.book.set.Given as goal

abbrev pub ghosts-set_counted : goal.ghosts-set_counted
ghosts-set_counted a = record { name = a.blank.name; parts = a.blank.parts }
