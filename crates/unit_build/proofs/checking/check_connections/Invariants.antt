use Rattle.std.proofs.Common.{◌≡◌, map, drop}
use Rattle.width_rules.specs.Entries.{scope_of}
use Rattle.unit_build.specs.Connections.{all_connection_kinds}
use Rattle.unit_build.specs.Views.{connected_of}
use Rattle.unit_build.proofs.checking.check_connections.Given as goal

abbrev pub invariant-loop-c : goal.invariant-loop-c
invariant-loop-c l =
    all_connection_kinds (scope_of l.scope) (map connected_of (drop l.c-index l.list)) ≡ all_connection_kinds (scope_of l.scope) (map connected_of l.list)
