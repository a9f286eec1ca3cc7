use Rattle.std.proofs.Common.{◌≡◌, map, drop}
use Rattle.verilog_ast.specs.Views.{port_of}
use Rattle.width_rules.specs.Scopes.{Unknown}
use Rattle.width_rules.specs.Entries.{scope_of, around}
use Rattle.gen_unroll.specs.Declarations.{all_declared, port_name}
use Rattle.gen_unroll.proofs.hiding.hide_header_ports.Given as goal

abbrev pub invariant-loop-port : goal.invariant-loop-port
invariant-loop-port l = record {
  names : all_declared Unknown (map port_name (map port_of (drop l.port-index l.ports))) (scope_of l.scope) ≡ all_declared Unknown (map port_name (map port_of l.ports)) (scope_of l.initial.scope);
  kept : around l.scope ≡ around l.initial.scope;
}
