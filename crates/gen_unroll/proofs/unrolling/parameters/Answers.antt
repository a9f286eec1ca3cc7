use Rattle.std.proofs.Common.{◌+◌, map, drop, Result, Err, ◌∙◌, ap}
use Rattle.ls_text.specs.declared.fault.Fault.{Fault}
use Rattle.verilog_ast.specs.Views.{parameter_of}
use Rattle.gen_unroll.specs.Declarations.{ParameterType}
use Rattle.gen_unroll.specs.Told.{◌>>=◌, quiet}
use Rattle.gen_unroll.specs.Unrolled.{each, parameter}
use Rattle.gen_unroll.specs.Views.{state_of, parameter_type_of}
use Rattle.gen_unroll.proofs.Blocks.{goes_as}
use Rattle.gen_unroll.proofs.Lefts.{left_more, goes_stop}
use Rattle.gen_unroll.proofs.Listing.{each_next}
use Rattle.gen_unroll.proofs.unrolling.parameters.Goals as goal

pub returns-in-Err-clause-goes : goal.returns-in-Err-clause-goes
returns-in-Err-clause-goes c =
    goes_as c.args.w.now c.parameter.new.w (Err c.in-Err.refusal) _ _
    (ap (λ (r : Result ParameterType Fault). quiet r >>= λ t. each (parameter c.args.sort t) (map parameter_of c.args.all.now) (state_of c.args.w.now)) c.in_ok-kind.ensures)
    (goes_stop c.args.w.now c.loop-one.w c.parameter.new.w _ _ _ (λ next. each (parameter c.args.sort (parameter_type_of c.in_ok-kind.kind)) (map parameter_of (drop (c.loop-one.one-index + 1) c.args.all.now)) next) _
    c.loop-one.invariant.left
    (each_next parameter_of (parameter c.args.sort (parameter_type_of c.in_ok-kind.kind)) c.args.all.now c.loop-one.one-index c.one-item.result (state_of c.loop-one.w) c.loop-one-test.true c.one-item.is)
    c.in-Err.ensures.goes)

pub loop-one-preserved : goal.loop-one-preserved
loop-one-preserved c = record {
  left = left_more _ _ _ _ _ _ (λ next. each (parameter c.args.sort (parameter_type_of c.in_ok-kind.kind)) (map parameter_of (drop (c.loop-one.one-index + 1) c.args.all.now)) next) _
      c.loop-one.invariant.left
      (each_next parameter_of (parameter c.args.sort (parameter_type_of c.in_ok-kind.kind)) c.args.all.now c.loop-one.one-index c.one-item.result (state_of c.loop-one.w) c.loop-one-test.true c.one-item.is)
      c.in-Ok.ensures.goes;
  kept = c.in-Ok.ensures.around ∙ c.loop-one.invariant.kept;
}
