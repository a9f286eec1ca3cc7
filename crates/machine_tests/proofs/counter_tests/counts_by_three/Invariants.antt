use Rattle.machine_tests.proofs.counter_tests.counts_by_three.Given as goal

abbrev pub ghosts-figures : goal.ghosts-figures
ghosts-figures g a = record { name = a.blank.name; parts = a.blank.parts }
