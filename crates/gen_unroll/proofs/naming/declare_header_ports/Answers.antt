use Rattle.std.proofs.Common.{◌∙◌}
use Rattle.verilog_ast.specs.Views.{port_of}
use Rattle.width_rules.specs.Entries.{scope_of}
use Rattle.gen_unroll.specs.Declarations.{port_name, net}
use Rattle.gen_unroll.proofs.Scoping.{names_next}
use Rattle.gen_unroll.proofs.naming.declare_header_ports.Goals as goal

pub loop-port-preserved : goal.loop-port-preserved
loop-port-preserved c = record {
  names = names_next port_name port_of net _ c.args.ports.now c.loop-port.port-index c.port-item.result _ (scope_of c.loop-port.scope) (scope_of c.declare.new.scope)
      c.loop-port-test.true c.port-item.is c.port_name.ensures c.net.ensures c.in_ok-declare.ensures.names
      ∙ c.loop-port.invariant.names;
  kept = c.in_ok-declare.ensures.around ∙ c.loop-port.invariant.kept;
}
