use Rattle.std.proofs.Common.{◌≡◌, map, drop}
use Rattle.verilog_ast.specs.Views.{expression_of, parts_of}
use Rattle.width_rules.specs.Entries.{scope_of}
use Rattle.width_rules.specs.Sizes.{is_constant as has_no_signal}
use Rattle.width_rules.proofs.constants.+constant.Given as goal

abbrev pub invariant-are_constant-loop-part : goal.invariant-are_constant-loop-part
invariant-are_constant-loop-part l =
    has_no_signal (scope_of l.scope) (parts_of (map expression_of (drop l.part-index l.parts))) ≡ has_no_signal (scope_of l.scope) (parts_of (map expression_of l.parts))
