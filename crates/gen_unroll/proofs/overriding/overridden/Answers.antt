use Rattle.std.proofs.Common.{map, drop}
use Rattle.gen_unroll.specs.Views.{override_view}
use Rattle.gen_unroll.proofs.Overridden.{ended}
use Rattle.gen_unroll.proofs.overriding.overridden.Goals as goal

pub returns-in_default : goal.returns-in_default
returns-in_default c =
    ended (map override_view c.loop-sort.overrides.items) _ (drop c.loop-sort.sort-index c.args.sorts.now) c.loop-sort.rest.now c.in_default.ensures.cases c.loop-sort.invariant
