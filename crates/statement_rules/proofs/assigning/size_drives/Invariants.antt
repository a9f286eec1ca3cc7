use Rattle.std.proofs.Common.{◌≡◌, ◌++◌, map, drop}
use Rattle.verilog_ast.specs.Views.{assignment_of}
use Rattle.statement_rules.specs.Drives.{sized_drive, drive_of, all_drive_faults}
use Rattle.width_rules.specs.Entries.{scope_of}
use Rattle.statement_rules.proofs.assigning.size_drives.Given as goal

abbrev pub invariant-loop-assignment : goal.invariant-loop-assignment
invariant-loop-assignment l = record {
  ahead : all_drive_faults (scope_of l.scope) (map assignment_of (drop l.assignment-index l.list)) ≡ all_drive_faults (scope_of l.scope) (map assignment_of l.list);
  kept : map drive_of l.drives.items ++ map (sized_drive (scope_of l.scope)) (map assignment_of (drop l.assignment-index l.list))
      ≡ map (sized_drive (scope_of l.scope)) (map assignment_of l.list);
}
