use Rattle.worker_tests.proofs.thread_tests.a_worker_gives_a_ticket_up_at_want_of_memory.Given as goal

abbrev pub ghosts-edited_and_watched : goal.ghosts-edited_and_watched
ghosts-edited_and_watched g a = record { name = a.blank.name; parts = a.blank.parts }
