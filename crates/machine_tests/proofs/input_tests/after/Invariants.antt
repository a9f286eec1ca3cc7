use Rattle.machine_tests.proofs.input_tests.after.Given as goal

abbrev pub ghosts-state_in_two_runs : goal.ghosts-state_in_two_runs
ghosts-state_in_two_runs a = record { name = a.blank.name; parts = a.blank.parts }
