-- The walk goes down the depth of an expression; what is done with parts stands between it and its parts.
use Rattle.std.proofs.Common.{◌≡◌, ◌+◌, ◌*◌, ◌&&◌, max, map, drop}
use Rattle.verilog_ast.proofs.expression.Expr.TheLaws.{the_size}
use Rattle.verilog_ast.specs.Views.{expression_of, parts_of}
use Rattle.width_rules.specs.Entries.{scope_of}
use Rattle.width_rules.specs.Sizes.{is_constant}
use Rattle.width_rules.specs.Faults.{faults}
use Rattle.width_rules.specs.Joins.{joined_of, joins, Nothing}
use Rattle.width_rules.proofs.measuring.+measure.Given as goal

abbrev pub decreases-measure : goal.decreases-measure
decreases-measure l = 8 * goal.size-measure l

abbrev pub decreases-own : goal.decreases-own
decreases-own l = 8 * goal.size-own l + 1

abbrev pub decreases-number : goal.decreases-number
decreases-number l = 8 * goal.size-number l + 2

abbrev pub decreases-unary : goal.decreases-unary
decreases-unary l = 8 * goal.size-unary l + 3

abbrev pub decreases-bit : goal.decreases-bit
decreases-bit l = 8 * goal.size-bit l + 3

abbrev pub decreases-read : goal.decreases-read
decreases-read l = 8 * goal.size-read l + 4

abbrev pub decreases-binary : goal.decreases-binary
decreases-binary l = 8 * max (the_size l.a.now) (the_size l.b.now) + 3

abbrev pub decreases-part : goal.decreases-part
decreases-part l = 8 * max (the_size l.a.now) (the_size l.b.now) + 3

abbrev pub decreases-run : goal.decreases-run
decreases-run l = 8 * max (the_size l.a.now) (the_size l.b.now) + 3

abbrev pub decreases-conditional : goal.decreases-conditional
decreases-conditional l = 8 * max (the_size l.c.now) (max (the_size l.a.now) (the_size l.b.now)) + 3

abbrev pub decreases-all_parts : goal.decreases-all_parts
decreases-all_parts l = 8 * goal.size-all_parts l + 2

abbrev pub decreases-concatenation : goal.decreases-concatenation
decreases-concatenation l = 8 * goal.size-concatenation l + 3

abbrev pub decreases-replication : goal.decreases-replication
decreases-replication l = 8 * max (goal.size-replication l) (the_size l.count.now) + 3

abbrev pub invariant-all_parts-loop-part : goal.invariant-all_parts-loop-part
invariant-all_parts-loop-part l = record {
  ahead : faults (scope_of l.scope) l.due (parts_of (map expression_of (drop l.part-index l.parts))) ≡ faults (scope_of l.scope) l.due (parts_of (map expression_of l.parts));
  fixed : (l.constant && is_constant (scope_of l.scope) (parts_of (map expression_of (drop l.part-index l.parts)))) ≡ is_constant (scope_of l.scope) (parts_of (map expression_of l.parts));
  together : joins (scope_of l.scope) (joined_of l.joined) (map expression_of (drop l.part-index l.parts)) ≡ joins (scope_of l.scope) Nothing (map expression_of l.parts);
}
