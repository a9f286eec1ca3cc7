use Rattle.std.proofs.Common.{◌∙◌, refl}
use Rattle.verilog_ast.specs.Views.{declared_of}
use Rattle.width_rules.specs.Scopes.{Unknown}
use Rattle.width_rules.specs.Entries.{scope_of}
use Rattle.gen_unroll.specs.Declarations.{declared_name}
use Rattle.gen_unroll.proofs.Scoping.{names_next}
use Rattle.gen_unroll.proofs.hiding.hide_variables.Goals as goal

pub loop-variable-preserved : goal.loop-variable-preserved
loop-variable-preserved c = record {
  names = names_next declared_name declared_of Unknown _ c.args.variables.now c.loop-variable.variable-index c.variable-item.result _ (scope_of c.loop-variable.scope) (scope_of c.hide.new.scope)
      c.loop-variable-test.true c.variable-item.is refl refl c.in_ok-hide.ensures.names
      ∙ c.loop-variable.invariant.names;
  kept = c.in_ok-hide.ensures.around ∙ c.loop-variable.invariant.kept;
}
