use Rattle.std.proofs.Common.{◌≡◌, ◌++◌, not, map, drop}
use Rattle.block_rules.specs.Paths.{true_from, places_of_true}
use Rattle.driver_rules.specs.Targets.{flag_at, may_write}
use Rattle.driver_rules.proofs.targeting.bad_targets.Given as goal

abbrev pub invariant-loop-k : goal.invariant-loop-k
invariant-loop-k l =
    l.bad.items ++ true_from l.k (map (λ s. not (may_write l.declarations (flag_at l.settled) l.writer s)) (drop l.k l.signals))
    ≡ places_of_true (map (λ s. not (may_write l.declarations (flag_at l.settled) l.writer s)) l.signals)
