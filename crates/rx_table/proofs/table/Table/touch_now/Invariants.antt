use Rattle.rx_table.proofs.table.Table.touch_now.Given as goal

abbrev pub ghosts-touch_counted : goal.ghosts-touch_counted
ghosts-touch_counted a = record { name = a.blank.name; parts = a.blank.parts }
