use Rattle.std.proofs.Common.{◌≡◌, ◌++◌, map, drop}
use Rattle.gen_unroll.specs.Views.{override_view}
use Rattle.elaborate.specs.Overrides.{value_given}
use Rattle.elaborate.specs.Views.{given_of}
use Rattle.elaborate.proofs.overriding.values_given.Given as goal

abbrev pub invariant-loop-name : goal.invariant-loop-name
invariant-loop-name l =
    map override_view l.values.items ++ map (value_given (given_of l.given)) (drop l.name-index l.names) ≡ map (value_given (given_of l.given)) l.names
