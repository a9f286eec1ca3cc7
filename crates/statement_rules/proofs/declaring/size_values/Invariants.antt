use Rattle.std.proofs.Common.{◌≡◌, ◌++◌, map, drop}
use Rattle.typed_ir.specs.Items.{item_of}
use Rattle.width_rules.specs.Entries.{scope_of}
use Rattle.statement_rules.specs.DeclaredValues.{all_value_faults, declaration_initials}
use Rattle.statement_rules.specs.SizedItems.{value_item}
use Rattle.statement_rules.specs.Views.{declared_value_of, initial_of}
use Rattle.statement_rules.proofs.declaring.size_values.Given as goal

abbrev pub invariant-loop-x : goal.invariant-loop-x
invariant-loop-x l = record {
  ahead : all_value_faults (scope_of l.scope) (map declared_value_of (drop l.x-index l.values)) ≡ all_value_faults (scope_of l.scope) (map declared_value_of l.values);
  kept : map item_of l.list.items.items ++ map (value_item (scope_of l.scope)) (map declared_value_of (drop l.x-index l.values))
      ≡ map item_of l.initial.list.items.items ++ map (value_item (scope_of l.scope)) (map declared_value_of l.values);
  begun : map initial_of l.list.initials.items ++ declaration_initials (scope_of l.scope) (map declared_value_of (drop l.x-index l.values))
      ≡ map initial_of l.initial.list.initials.items ++ declaration_initials (scope_of l.scope) (map declared_value_of l.values);
}
