use Rattle.worker_tests.proofs.reloading.reload_uncounted.Given as goal

abbrev pub ghosts-reload_often : goal.ghosts-reload_often
ghosts-reload_often g a = record { name = a.blank.name; parts = a.blank.parts }
