use Rattle.std.proofs.Common.{◌≡◌, ◌++◌, replicate}
use Rattle.design_steps.proofs.words.push_zeros.Given as goal

abbrev pub invariant-zeros : goal.invariant-zeros
invariant-zeros l = l.words.items ++ replicate l.left 0 ≡ l.initial.words.items ++ replicate l.count 0

abbrev pub decreases-zeros : goal.decreases-zeros
decreases-zeros l = l.left
