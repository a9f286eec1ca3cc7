use Rattle.std.proofs.Common.{◌≡◌, map, drop}
use Rattle.elaborate.specs.Elaborated.{is_on}
use Rattle.clock_rules.specs.Views.{id_of}
use Rattle.elaborate.proofs.elaborating.is_on.Given as goal

abbrev pub invariant-loop-one : goal.invariant-loop-one
invariant-loop-one l =
    is_on (map id_of (drop l.one-index l.path)) l.name.0 ≡ is_on (map id_of l.path) l.name.0
