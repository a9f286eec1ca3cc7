use Rattle.worker_tests.proofs.turn_tests.settles.Given as goal

abbrev pub ghosts-settled_twice : goal.ghosts-settled_twice
ghosts-settled_twice g a = record { name = a.blank.name; parts = a.blank.parts }
