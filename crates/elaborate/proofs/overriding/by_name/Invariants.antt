use Rattle.std.proofs.Common.{◌≡◌, [], map, drop}
use Rattle.verilog_ast.specs.Views.{by_name_of}
use Rattle.width_rules.specs.Entries.{scope_of}
use Rattle.elaborate.specs.Overrides.{by_name}
use Rattle.elaborate.specs.Views.{given_of}
use Rattle.elaborate.proofs.overriding.by_name.Given as goal

abbrev pub invariant-loop-one : goal.invariant-loop-one
invariant-loop-one l =
    by_name (scope_of l.scope) l.names (map by_name_of (drop l.one-index l.all)) (given_of l.given) ≡ by_name (scope_of l.scope) l.names (map by_name_of l.all) []
