use Rattle.std.proofs.Common.{◌∙◌, refl}
use Rattle.verilog_ast.specs.Views.{instance_of}
use Rattle.width_rules.specs.Scopes.{Unknown}
use Rattle.width_rules.specs.Entries.{scope_of}
use Rattle.gen_unroll.specs.Declarations.{instance_name}
use Rattle.gen_unroll.proofs.Scoping.{names_next}
use Rattle.gen_unroll.proofs.naming.declare_instances.Goals as goal

pub loop-instance-preserved : goal.loop-instance-preserved
loop-instance-preserved c = record {
  names = names_next instance_name instance_of Unknown _ c.args.instances.now c.loop-instance.instance-index c.instance-item.result _ (scope_of c.loop-instance.scope) (scope_of c.declare.new.scope)
      c.loop-instance-test.true c.instance-item.is refl refl c.in_ok-declare.ensures.names
      ∙ c.loop-instance.invariant.names;
  kept = c.in_ok-declare.ensures.around ∙ c.loop-instance.invariant.kept;
}
