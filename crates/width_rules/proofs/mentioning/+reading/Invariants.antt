-- The walk goes down the depth of an expression; what is done with parts stands between it and its parts.
use Rattle.std.proofs.Common.{◌+◌, ◌*◌, max, map, drop}
use Rattle.verilog_ast.proofs.expression.Expr.TheLaws.{the_size}
use Rattle.verilog_ast.specs.Views.{expression_of, parts_of}
use Rattle.width_rules.specs.Entries.{scope_of}
use Rattle.width_rules.specs.Adding.{NamesLeft}
use Rattle.width_rules.specs.Names.{expression_names}
use Rattle.width_rules.proofs.mentioning.+reading.Given as goal

abbrev pub decreases-read : goal.decreases-read
decreases-read l = 4 * goal.size-read l

abbrev pub decreases-read_both : goal.decreases-read_both
decreases-read_both l = 4 * max (the_size l.a.now) (the_size l.b.now) + 1

abbrev pub decreases-read_three : goal.decreases-read_three
decreases-read_three l = 4 * max (the_size l.c.now) (max (the_size l.a.now) (the_size l.b.now)) + 1

abbrev pub decreases-read_parts : goal.decreases-read_parts
decreases-read_parts l = 4 * goal.size-read_parts l + 1

abbrev pub decreases-read_index : goal.decreases-read_index
decreases-read_index l = 4 * the_size l.index.now + 1

abbrev pub decreases-read_select : goal.decreases-read_select
decreases-read_select l = 4 * the_size l.index.now + 2

abbrev pub decreases-read_reference : goal.decreases-read_reference
decreases-read_reference l = 4 * goal.size-read_reference l + 3

abbrev pub invariant-read_parts-loop-part : goal.invariant-read_parts-loop-part
invariant-read_parts-loop-part l =
    NamesLeft l.initial.list.items l.list.items l.from l.next (expression_names (scope_of l.scope) (parts_of (map expression_of l.parts)))
    (expression_names (scope_of l.scope) (parts_of (map expression_of (drop l.part-index l.parts))))
