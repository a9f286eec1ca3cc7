use Rattle.segment_verify.proofs.Counting.{passes_owned, passes_outline, passes_moments, passes_counts, passes_links}
use Rattle.segment_verify.proofs.laws.passes_of_settles.Goals as goal
use Rattle.book_history.proofs.Outlines.{links_marked}

pub returns-clause-owned : goal.returns-clause-owned
returns-clause-owned g c = λ n es are. passes_owned n es are

pub returns-clause-outline : goal.returns-clause-outline
returns-clause-outline g c = λ st o n es are. passes_outline st o n es are

pub returns-clause-moments : goal.returns-clause-moments
returns-clause-moments g c = let m = g.M.Machine in λ st b n es are. passes_moments m.kit st b n es are

pub returns-clause-counts : goal.returns-clause-counts
returns-clause-counts g c = λ n m es are. passes_counts n m es are

pub returns-clause-links : goal.returns-clause-links
returns-clause-links g c = let m = g.M.Machine in λ st h n es are legal. passes_links m.kit st m.valid h n es are legal

pub returns-clause-marks : goal.returns-clause-marks
returns-clause-marks g c = λ b. links_marked b
