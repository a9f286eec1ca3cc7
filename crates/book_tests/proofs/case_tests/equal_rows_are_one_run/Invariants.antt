use Rattle.book_tests.proofs.case_tests.equal_rows_are_one_run.Given as goal

abbrev pub ghosts-runs_held : goal.ghosts-runs_held
ghosts-runs_held g a = record { name = a.blank.name; parts = a.blank.parts }
