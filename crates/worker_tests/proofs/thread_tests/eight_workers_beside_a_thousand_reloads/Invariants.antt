use Rattle.worker_tests.proofs.thread_tests.eight_workers_beside_a_thousand_reloads.Given as goal

abbrev pub ghosts-edited : goal.ghosts-edited
ghosts-edited g a = record { name = a.blank.name; parts = a.blank.parts }
