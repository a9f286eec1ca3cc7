use Rattle.std.proofs.Common.{◌≡◌, drop}
use Rattle.elaborate.specs.Checks.{ports_declared}
use Rattle.elaborate.specs.Views.{table_of}
use Rattle.elaborate.proofs.checks.ports_declared.Given as goal

abbrev pub invariant-loop-name : goal.invariant-loop-name
invariant-loop-name l =
    ports_declared (drop l.name-index l.ports) (table_of l.table) ≡ ports_declared l.ports (table_of l.table)
