-- The walk goes down the depth of a tree.
use Rattle.std.proofs.Common.{◌≡◌, ◌+◌, ◌*◌, map, drop}
use Rattle.verilog_ast.specs.Views.{statement_of, statements_of, arm_of}
use Rattle.width_rules.specs.Entries.{scope_of}
use Rattle.clock_rules.specs.Clocks.{statement_free}
use Rattle.clock_rules.proofs.clock_free.+statement.Given as goal

abbrev pub decreases-statement_free : goal.decreases-statement_free
decreases-statement_free l = 4 * goal.size-statement_free l

abbrev pub decreases-statements_free : goal.decreases-statements_free
decreases-statements_free l = 4 * goal.size-statements_free l + 1

abbrev pub decreases-arm_free : goal.decreases-arm_free
decreases-arm_free l = 4 * goal.size-arm_free l + 1

abbrev pub decreases-arms_free : goal.decreases-arms_free
decreases-arms_free l = 4 * goal.size-arms_free l + 2

abbrev pub invariant-statements_free-loop-one : goal.invariant-statements_free-loop-one
invariant-statements_free-loop-one l =
    statement_free (scope_of l.scope) (statements_of (map statement_of (drop l.one-index l.all))) ≡ statement_free (scope_of l.scope) (statements_of (map statement_of l.all))

abbrev pub invariant-arms_free-loop-arm : goal.invariant-arms_free-loop-arm
invariant-arms_free-loop-arm l =
    statement_free (scope_of l.scope) (statements_of (map arm_of (drop l.arm-index l.arms))) ≡ statement_free (scope_of l.scope) (statements_of (map arm_of l.arms))
