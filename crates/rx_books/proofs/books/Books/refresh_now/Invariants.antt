use Rattle.rx_books.proofs.books.Books.refresh_now.Given as goal

abbrev pub ghosts-refresh_counted : goal.ghosts-refresh_counted
ghosts-refresh_counted g a = record { name = a.blank.name; parts = a.blank.parts }
