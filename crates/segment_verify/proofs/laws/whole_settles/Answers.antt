use Rattle.segment_verify.proofs.Counting.{settle_owned, settle_outline, settle_moments, settle_shows, settle_counts}
use Rattle.segment_verify.proofs.laws.whole_settles.Goals as goal

pub returns-clause-owned : goal.returns-clause-owned
returns-clause-owned g c = λ n links es s. settle_owned n links es s

pub returns-clause-outline : goal.returns-clause-outline
returns-clause-outline g c = λ st o n links es s. settle_outline st o n links es s

pub returns-clause-moments : goal.returns-clause-moments
returns-clause-moments g c = let m = g.M.Machine in λ st b n links es s. settle_moments m.kit st b n links es s

pub returns-clause-shows : goal.returns-clause-shows
returns-clause-shows g c = let m = g.M.Machine in λ st h n links es s legal. settle_shows m.kit st m.valid h n links es s legal

pub returns-clause-counts : goal.returns-clause-counts
returns-clause-counts g c = λ n m links es s. settle_counts n m links es s
