use Rattle.std.proofs.Common.{◌≡◌, drop}
use Rattle.width_rules.specs.Scopes.{Unknown}
use Rattle.width_rules.specs.Entries.{scope_of, around}
use Rattle.gen_unroll.specs.Declarations.{all_declared}
use Rattle.gen_unroll.proofs.hiding.hide_names.Given as goal

abbrev pub invariant-loop-name : goal.invariant-loop-name
invariant-loop-name l = record {
  names : all_declared Unknown (drop l.name-index l.names) (scope_of l.scope) ≡ all_declared Unknown l.names (scope_of l.initial.scope);
  kept : around l.scope ≡ around l.initial.scope;
}
