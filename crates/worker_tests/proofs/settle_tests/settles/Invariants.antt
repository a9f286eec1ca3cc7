use Rattle.worker_tests.proofs.settle_tests.settles.Given as goal

abbrev pub ghosts-settled_twice : goal.ghosts-settled_twice
ghosts-settled_twice a = record { name = a.blank.name; parts = a.blank.parts }
