use Rattle.rx_server.proofs.server.Server.accept.Given as goal

abbrev pub ghosts-accept_counted : goal.ghosts-accept_counted
ghosts-accept_counted g a = record { name = a.blank.name; parts = a.blank.parts }
