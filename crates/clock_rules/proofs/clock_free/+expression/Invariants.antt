-- The walk goes down the depth of a tree.
use Rattle.std.proofs.Common.{◌≡◌, ◌+◌, ◌*◌, map, drop}
use Rattle.verilog_ast.specs.Views.{expression_of, parts_of}
use Rattle.width_rules.specs.Entries.{scope_of}
use Rattle.clock_rules.specs.Clocks.{clock_free}
use Rattle.clock_rules.proofs.clock_free.+expression.Given as goal

abbrev pub decreases-clock_free : goal.decreases-clock_free
decreases-clock_free l = 4 * goal.size-clock_free l

abbrev pub decreases-reference_free : goal.decreases-reference_free
decreases-reference_free l = 4 * goal.size-reference_free l + 1

abbrev pub decreases-parts_free : goal.decreases-parts_free
decreases-parts_free l = 4 * goal.size-parts_free l + 2

abbrev pub invariant-parts_free-loop-part : goal.invariant-parts_free-loop-part
invariant-parts_free-loop-part l =
    clock_free (scope_of l.scope) (parts_of (map expression_of (drop l.part-index l.parts))) ≡ clock_free (scope_of l.scope) (parts_of (map expression_of l.parts))
