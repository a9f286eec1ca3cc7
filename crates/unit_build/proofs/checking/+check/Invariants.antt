use Rattle.std.proofs.Common.{◌≡◌, map, drop}
use Rattle.verilog_ast.specs.Views.{expression_of, parts_of}
use Rattle.width_rules.specs.Entries.{scope_of}
use Rattle.unit_build.specs.Outputs.{part_kinds}
use Rattle.unit_build.proofs.checking.+check.Given as goal

abbrev pub invariant-check_parts-loop-part : goal.invariant-check_parts-loop-part
invariant-check_parts-loop-part l =
    part_kinds (scope_of l.scope) (parts_of (map expression_of (drop l.part-index l.list))) ≡ part_kinds (scope_of l.scope) (parts_of (map expression_of l.list))
