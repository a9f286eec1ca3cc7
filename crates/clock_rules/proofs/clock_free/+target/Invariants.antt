-- The walk goes down the depth of a tree.
use Rattle.std.proofs.Common.{◌≡◌, ◌+◌, ◌*◌, map, drop}
use Rattle.verilog_ast.specs.Views.{target_of, targets_of}
use Rattle.width_rules.specs.Entries.{scope_of}
use Rattle.clock_rules.specs.Clocks.{target_free}
use Rattle.clock_rules.proofs.clock_free.+target.Given as goal

abbrev pub decreases-target_free : goal.decreases-target_free
decreases-target_free l = 2 * goal.size-target_free l

abbrev pub decreases-targets_free : goal.decreases-targets_free
decreases-targets_free l = 2 * goal.size-targets_free l + 1

abbrev pub invariant-targets_free-loop-target : goal.invariant-targets_free-loop-target
invariant-targets_free-loop-target l =
    target_free (scope_of l.scope) (targets_of (map target_of (drop l.target-index l.targets))) ≡ target_free (scope_of l.scope) (targets_of (map target_of l.targets))
