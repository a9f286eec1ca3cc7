use Rattle.std.proofs.Common.{◌≡◌, ◌++◌, length}
use Rattle.design_steps.proofs.fronting.prepend.Given as goal

abbrev pub invariant-taking : goal.invariant-taking
invariant-taking l = l.first.items ++ l.steps.items ≡ l.initial.first.items ++ l.initial.steps.items

abbrev pub decreases-taking : goal.decreases-taking
decreases-taking l = length l.first.items
