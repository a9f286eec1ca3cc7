use Rattle.std.proofs.Common.{◌≡◌, map, drop}
use Rattle.width_rules.specs.Entries.{scope_of}
use Rattle.statement_rules.specs.DeclaredValues.{all_value_kinds}
use Rattle.statement_rules.specs.Views.{declared_value_of}
use Rattle.statement_rules.proofs.declaring.check_values.Given as goal

abbrev pub invariant-loop-x : goal.invariant-loop-x
invariant-loop-x l =
    all_value_kinds (scope_of l.scope) (map declared_value_of (drop l.x-index l.values)) ≡ all_value_kinds (scope_of l.scope) (map declared_value_of l.values)
