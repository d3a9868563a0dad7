use Rattle.rx_table.proofs.table.Table.idle_now.Given as goal

abbrev pub ghosts-idle_counted : goal.ghosts-idle_counted
ghosts-idle_counted a = record { name = a.blank.name; parts = a.blank.parts }
