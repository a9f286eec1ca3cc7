use Rattle.std.proofs.Common.{◌∙◌, refl}
use Rattle.verilog_ast.specs.Views.{port_of}
use Rattle.width_rules.specs.Scopes.{Unknown}
use Rattle.width_rules.specs.Entries.{scope_of}
use Rattle.gen_unroll.specs.Declarations.{port_name}
use Rattle.gen_unroll.proofs.Scoping.{names_next}
use Rattle.gen_unroll.proofs.hiding.hide_header_ports.Goals as goal

pub loop-port-preserved : goal.loop-port-preserved
loop-port-preserved c = record {
  names = names_next port_name port_of Unknown _ c.args.ports.now c.loop-port.port-index c.port-item.result _ (scope_of c.loop-port.scope) (scope_of c.hide.new.scope)
      c.loop-port-test.true c.port-item.is c.port_name.ensures refl c.in_ok-hide.ensures.names
      ∙ c.loop-port.invariant.names;
  kept = c.in_ok-hide.ensures.around ∙ c.loop-port.invariant.kept;
}
