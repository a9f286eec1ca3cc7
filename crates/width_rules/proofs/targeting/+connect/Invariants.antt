-- The walk goes down the depth of an expression.
use Rattle.std.proofs.Common.{◌+◌, ◌*◌, map, drop}
use Rattle.verilog_ast.specs.Views.{expression_of, parts_of}
use Rattle.width_rules.specs.Adding.{NamesLeft}
use Rattle.width_rules.specs.Names.{expression_targets}
use Rattle.width_rules.proofs.targeting.+connect.Given as goal

abbrev pub decreases-connect : goal.decreases-connect
decreases-connect l = 2 * goal.size-connect l

abbrev pub decreases-connect_all : goal.decreases-connect_all
decreases-connect_all l = 2 * goal.size-connect_all l + 1

abbrev pub invariant-connect_all-loop-part : goal.invariant-connect_all-loop-part
invariant-connect_all-loop-part l =
    NamesLeft l.initial.list.items l.list.items l.from l.next (expression_targets (parts_of (map expression_of l.parts)))
    (expression_targets (parts_of (map expression_of (drop l.part-index l.parts))))
