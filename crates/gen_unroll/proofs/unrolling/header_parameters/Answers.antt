use Rattle.std.proofs.Common.{◌+◌, map, drop, ◌∙◌}
use Rattle.verilog_ast.specs.Views.{header_parameter_of}
use Rattle.gen_unroll.specs.Unrolled.{header_parameters}
use Rattle.gen_unroll.specs.Views.{state_of, parameter_type_of}
use Rattle.gen_unroll.proofs.Lefts.{left_more, goes_stop}
use Rattle.gen_unroll.proofs.Listing.{header_next}
use Rattle.gen_unroll.proofs.unrolling.header_parameters.Goals as goal

pub returns-in-Err-parameter-clause-goes : goal.returns-in-Err-parameter-clause-goes
returns-in-Err-parameter-clause-goes c =
    goes_stop c.args.w.now c.loop-one.w c.parameter.new.w _ _ _ (λ next. header_parameters (parameter_type_of c.in-Ok.kind) (map header_parameter_of (drop (c.loop-one.one-index + 1) c.args.all.now)) next) _
    c.loop-one.invariant.left
    (header_next (parameter_type_of c.loop-one.kind) (parameter_type_of c.in-Ok.kind) c.args.all.now c.loop-one.one-index c.one-item.result (state_of c.loop-one.w) c.loop-one-test.true c.one-item.is c.in-Ok.ensures)
    c.in-Err-parameter.ensures.goes

pub loop-one-preserved : goal.loop-one-preserved
loop-one-preserved c = record {
  left = left_more _ _ _ _ _ _ (λ next. header_parameters (parameter_type_of c.in-Ok.kind) (map header_parameter_of (drop (c.loop-one.one-index + 1) c.args.all.now)) next) _
      c.loop-one.invariant.left
      (header_next (parameter_type_of c.loop-one.kind) (parameter_type_of c.in-Ok.kind) c.args.all.now c.loop-one.one-index c.one-item.result (state_of c.loop-one.w) c.loop-one-test.true c.one-item.is c.in-Ok.ensures)
      c.in-Ok-parameter.ensures.goes;
  kept = c.in-Ok-parameter.ensures.around ∙ c.loop-one.invariant.kept;
}
