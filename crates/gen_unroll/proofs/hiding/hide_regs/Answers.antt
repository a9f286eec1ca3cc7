use Rattle.std.proofs.Common.{◌∙◌, refl}
use Rattle.verilog_ast.specs.Views.{declared_reg_of}
use Rattle.width_rules.specs.Scopes.{Unknown}
use Rattle.width_rules.specs.Entries.{scope_of}
use Rattle.gen_unroll.specs.Declarations.{declared_reg_name}
use Rattle.gen_unroll.proofs.Scoping.{names_next}
use Rattle.gen_unroll.proofs.hiding.hide_regs.Goals as goal

pub loop-reg-preserved : goal.loop-reg-preserved
loop-reg-preserved c = record {
  names = names_next declared_reg_name declared_reg_of Unknown _ c.args.regs.now c.loop-reg.reg-index c.reg-item.result _ (scope_of c.loop-reg.scope) (scope_of c.hide.new.scope)
      c.loop-reg-test.true c.reg-item.is refl refl c.in_ok-hide.ensures.names
      ∙ c.loop-reg.invariant.names;
  kept = c.in_ok-hide.ensures.around ∙ c.loop-reg.invariant.kept;
}
