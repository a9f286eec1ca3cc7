use Rattle.session_retries.proofs.asking.+carry.Given as goal

abbrev pub decreases-carry : goal.decreases-carry
decreases-carry g l = l.tries
