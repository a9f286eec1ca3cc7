use Rattle.std.proofs.Common.{◌≡◌, map, drop}
use Rattle.width_rules.specs.Scopes.{Unknown}
use Rattle.verilog_ast.specs.Views.{instance_of}
use Rattle.gen_unroll.specs.Declarations.{all_declared, instance_name}
use Rattle.width_rules.specs.Entries.{scope_of, around}
use Rattle.gen_unroll.proofs.naming.declare_instances.Given as goal

abbrev pub invariant-loop-instance : goal.invariant-loop-instance
invariant-loop-instance l = record {
  names : all_declared Unknown (map instance_name (map instance_of (drop l.instance-index l.instances))) (scope_of l.scope) ≡ all_declared Unknown (map instance_name (map instance_of l.instances)) (scope_of l.initial.scope);
  kept : around l.scope ≡ around l.initial.scope;
}
