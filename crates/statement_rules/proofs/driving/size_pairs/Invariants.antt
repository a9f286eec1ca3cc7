use Rattle.std.proofs.Common.{◌≡◌, ◌++◌, map, drop}
use Rattle.typed_ir.specs.Items.{item_of}
use Rattle.verilog_ast.specs.Views.{assignment_of}
use Rattle.width_rules.specs.Entries.{scope_of}
use Rattle.statement_rules.specs.Drives.{all_drive_faults}
use Rattle.statement_rules.specs.SizedItems.{drive_item}
use Rattle.statement_rules.proofs.driving.size_pairs.Given as goal

abbrev pub invariant-loop-pair : goal.invariant-loop-pair
invariant-loop-pair l = record {
  ahead : all_drive_faults (scope_of l.scope) (map assignment_of (drop l.pair-index l.pairs)) ≡ all_drive_faults (scope_of l.scope) (map assignment_of l.pairs);
  kept : map item_of l.items.items ++ map (drive_item (scope_of l.scope)) (map assignment_of (drop l.pair-index l.pairs))
      ≡ map item_of l.initial.items.items ++ map (drive_item (scope_of l.scope)) (map assignment_of l.pairs);
}
