use Rattle.std.proofs.Common.{◌≡◌, map, drop}
use Rattle.verilog_ast.specs.Views.{assignment_of}
use Rattle.statement_rules.specs.Drives.{all_kind_faults}
use Rattle.width_rules.specs.Entries.{scope_of}
use Rattle.statement_rules.proofs.assigning.check_drives.Given as goal

abbrev pub invariant-loop-assignment : goal.invariant-loop-assignment
invariant-loop-assignment l =
    all_kind_faults (scope_of l.scope) (map assignment_of (drop l.assignment-index l.list)) ≡ all_kind_faults (scope_of l.scope) (map assignment_of l.list)
