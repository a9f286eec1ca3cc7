use Rattle.std.proofs.Common.{◌≡◌, length}
use Rattle.width_rules.specs.Entries.{around}
use Rattle.width_rules.proofs.scope.Scope.close_block.Given as goal

-- what is covered and not uncovered yet stands for the same blocks
abbrev pub invariant-loop-covered : goal.invariant-loop-covered
invariant-loop-covered l = around l.self ≡ around l.fn.self

abbrev pub decreases-loop-covered : goal.decreases-loop-covered
decreases-loop-covered l = length l.self.covered.items
