use Rattle.rx_queue.proofs.book.clear.Given as goal

abbrev pub ghosts-clear_counted : goal.ghosts-clear_counted
ghosts-clear_counted a = record { name = a.blank.name; parts = a.blank.parts }
