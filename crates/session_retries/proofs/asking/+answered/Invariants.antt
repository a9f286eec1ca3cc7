use Rattle.session_retries.proofs.asking.+answered.Given as goal

abbrev pub decreases-answered : goal.decreases-answered
decreases-answered g l = l.tries
