use Rattle.std.proofs.Common.{◌≡◌, drop}
use Rattle.gen_unroll.specs.ReachViews.{reach_of}
use Rattle.elaborate.specs.Checks.{each, genvar}
use Rattle.elaborate.specs.Views.{checked_of}
use Rattle.elaborate.proofs.body.genvars.Given as goal

abbrev pub invariant-loop-name : goal.invariant-loop-name
invariant-loop-name l =
    each (genvar (reach_of l.here)) (drop l.name-index l.names) (checked_of l.check) ≡ each (genvar (reach_of l.here)) l.names (checked_of l.initial.check)
