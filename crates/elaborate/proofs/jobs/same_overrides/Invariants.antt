use Rattle.std.proofs.Common.{◌≡◌, map, drop}
use Rattle.gen_unroll.specs.Views.{override_view}
use Rattle.elaborate.proofs.jobs.same_overrides.Given as goal

abbrev pub invariant-loop-one : goal.invariant-loop-one
invariant-loop-one l =
    map override_view (drop l.one-index l.left) ≡ map override_view l.rest → map override_view l.left ≡ map override_view l.right
