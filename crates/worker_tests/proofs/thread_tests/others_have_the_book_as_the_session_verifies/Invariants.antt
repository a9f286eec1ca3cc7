use Rattle.worker_tests.proofs.thread_tests.others_have_the_book_as_the_session_verifies.Given as goal

abbrev pub ghosts-edited_and_watched : goal.ghosts-edited_and_watched
ghosts-edited_and_watched g a = record { name = a.blank.name; parts = a.blank.parts }
