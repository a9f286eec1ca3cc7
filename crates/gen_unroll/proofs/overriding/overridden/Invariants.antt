use Rattle.std.proofs.Common.{◌≡◌, ◌++◌, map, drop}
use Rattle.gen_unroll.specs.Views.{override_view}
use Rattle.gen_unroll.specs.Overriding.{overrides_of}
use Rattle.gen_unroll.proofs.overriding.overridden.Given as goal

-- the values so far, and those of the parameters that are left
abbrev pub invariant-loop-sort : goal.invariant-loop-sort
invariant-loop-sort l =
    map override_view l.overrides.items ++ overrides_of (drop l.sort-index l.sorts) l.rest ≡ overrides_of l.sorts l.parameters
