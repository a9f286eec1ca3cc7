use Rattle.std.proofs.Common.{◌≡◌, map, drop}
use Rattle.verilog_ast.specs.Views.{header_parameter_of}
use Rattle.width_rules.specs.Entries.{around}
use Rattle.gen_unroll.specs.Unrolled.{header_parameters}
use Rattle.gen_unroll.specs.Views.{steps_of, state_of, parameter_type_of}
use Rattle.gen_unroll.proofs.Lefts.{Left}
use Rattle.gen_unroll.proofs.unrolling.header_parameters.Given as goal

abbrev pub invariant-loop-one : goal.invariant-loop-one
invariant-loop-one l = record {
  left : Left (steps_of l.initial.w) (steps_of l.w)
      (header_parameters (parameter_type_of l.initial.kind) (map header_parameter_of l.all) (state_of l.initial.w))
      (header_parameters (parameter_type_of l.kind) (map header_parameter_of (drop l.one-index l.all)) (state_of l.w));
  kept : around l.w.scope ≡ around l.initial.w.scope;
}
