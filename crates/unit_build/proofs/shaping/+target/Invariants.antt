use Rattle.std.proofs.Common.{◌≡◌, map, drop}
use Rattle.verilog_ast.specs.Views.{expression_of, parts_of}
use Rattle.unit_build.specs.Outputs.{is_target}
use Rattle.unit_build.proofs.shaping.+target.Given as goal

abbrev pub invariant-are_targets-loop-part : goal.invariant-are_targets-loop-part
invariant-are_targets-loop-part l =
    is_target (parts_of (map expression_of (drop l.part-index l.parts))) ≡ is_target (parts_of (map expression_of l.parts))
