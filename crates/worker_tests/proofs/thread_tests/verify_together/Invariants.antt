use Rattle.worker_tests.proofs.thread_tests.verify_together.Given as goal

abbrev pub ghosts-edited_and_watched : goal.ghosts-edited_and_watched
ghosts-edited_and_watched g a = record { name = a.blank.name; parts = a.blank.parts }
