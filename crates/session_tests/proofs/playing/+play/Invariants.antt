use Rattle.session_tests.proofs.playing.+play.Given as goal

abbrev pub decreases-play : goal.decreases-play
decreases-play g l = l.most
