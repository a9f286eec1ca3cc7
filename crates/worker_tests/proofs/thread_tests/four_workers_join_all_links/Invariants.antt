use Rattle.worker_tests.proofs.thread_tests.four_workers_join_all_links.Given as goal

abbrev pub ghosts-edited : goal.ghosts-edited
ghosts-edited g a = record { name = a.blank.name; parts = a.blank.parts }
