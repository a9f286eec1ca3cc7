use Rattle.segment_verify.proofs.Counting.{unfinished_owned, unfinished_outline, unfinished_moments, unfinished_counts, unfinished_long}
use Rattle.segment_verify.proofs.laws.unfinished_settles.Goals as goal

pub returns-clause-owned : goal.returns-clause-owned
returns-clause-owned g c = λ es u. unfinished_owned es u

pub returns-clause-outline : goal.returns-clause-outline
returns-clause-outline g c = λ st o es u. unfinished_outline st o es u

pub returns-clause-moments : goal.returns-clause-moments
returns-clause-moments g c = let m = g.M.Machine in λ st b es u. unfinished_moments m.kit st b es u

pub returns-clause-counts : goal.returns-clause-counts
returns-clause-counts g c = λ n es u. unfinished_counts n es u

pub returns-clause-few : goal.returns-clause-few
returns-clause-few g c = λ es u. unfinished_long es u
