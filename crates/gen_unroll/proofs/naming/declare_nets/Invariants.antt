use Rattle.std.proofs.Common.{◌≡◌, drop}
use Rattle.gen_unroll.specs.Declarations.{all_declared, net}
use Rattle.width_rules.specs.Entries.{scope_of, around}
use Rattle.gen_unroll.proofs.naming.declare_nets.Given as goal

abbrev pub invariant-loop-name : goal.invariant-loop-name
invariant-loop-name l = record {
  names : all_declared net (drop l.name-index l.names) (scope_of l.scope) ≡ all_declared net l.names (scope_of l.initial.scope);
  kept : around l.scope ≡ around l.initial.scope;
}
