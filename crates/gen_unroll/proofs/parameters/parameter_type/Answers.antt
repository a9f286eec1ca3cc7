use Rattle.width_rules.specs.Entries.{scope_of}
use Rattle.gen_unroll.specs.Views.{parameter_type_of}
use Rattle.gen_unroll.proofs.Bounds.{typed_range, typed_refused}
use Rattle.gen_unroll.proofs.parameters.parameter_type.Goals as goal

pub returns-in-Ok : goal.returns-in-Ok
returns-in-Ok c = typed_range (scope_of c.args.scope.now) c.args.shape.now c.in-Some.range c.in-Ok.range c.in-Some.is c.in-Ok.ensures

pub returns-in-Err : goal.returns-in-Err
returns-in-Err c =
    typed_refused (scope_of c.args.scope.now) c.args.shape.now c.in-Some.range parameter_type_of c.in-Err.refusal c.in-Some.is c.in-Err.ensures
