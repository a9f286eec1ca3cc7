use Rattle.book_tests.proofs.row_tests.adds_rows.Given as goal

abbrev pub ghosts-tallies : goal.ghosts-tallies
ghosts-tallies g a = record { name = a.blank.name; parts = a.blank.parts }
