use Rattle.std.proofs.Common.{◌≡◌, map, drop}
use Rattle.typed_ir.specs.Units.{signal_within}
use Rattle.statement_rules.specs.Views.{initial_of}
use Rattle.unit_build.specs.Building.{with_initials}
use Rattle.unit_build.proofs.placing.begin_all.Given as goal

abbrev pub invariant-loop-given : goal.invariant-loop-given
invariant-loop-given l =
    with_initials (map initial_of (drop l.given-index l.initials)) (map signal_within l.signals.items)
    ≡ with_initials (map initial_of l.initials) (map signal_within l.initial.signals.items)
