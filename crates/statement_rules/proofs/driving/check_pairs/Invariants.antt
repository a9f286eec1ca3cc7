use Rattle.std.proofs.Common.{◌≡◌, map, drop}
use Rattle.verilog_ast.specs.Views.{assignment_of}
use Rattle.width_rules.specs.Entries.{scope_of}
use Rattle.statement_rules.specs.Drives.{all_kind_faults}
use Rattle.statement_rules.proofs.driving.check_pairs.Given as goal

abbrev pub invariant-loop-pair : goal.invariant-loop-pair
invariant-loop-pair l =
    all_kind_faults (scope_of l.scope) (map assignment_of (drop l.pair-index l.pairs)) ≡ all_kind_faults (scope_of l.scope) (map assignment_of l.pairs)
