use Rattle.worker_tests.proofs.thread_tests.without_workers_the_history_is_the_sessions.Given as goal

abbrev pub ghosts-edited : goal.ghosts-edited
ghosts-edited g a = record { name = a.blank.name; parts = a.blank.parts }
