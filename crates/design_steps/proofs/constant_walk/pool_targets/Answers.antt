use Rattle.std.proofs.Common.{◌≡◌, ◌<◌, ◌+◌, ◌-◌, length, drop, refl, sym, subst, arith}
use Rattle.typed_ir.specs.Targets.{target_of, targets_of}
use Rattle.design_steps.specs.Statements.{part_constants, target_constants}
use Rattle.design_steps.specs.Pooled.{Holds}
use Rattle.design_steps.proofs.Holding.{holds_next}
use Rattle.design_steps.proofs.constant_walk.pool_targets.Goals as goal

pub targets-preserved : goal.targets-preserved
targets-preserved c =
    let list = c.args.targets.now in
    let left = c.targets.left in
    let less : left - 1 < length list = omega (arith, c.targets-test.true, c.targets.invariant.within) in
    let more : left - 1 + 1 ≡ left = omega (arith, c.targets-test.true) in
    record {
      within = omega (arith, c.targets.invariant.within);
      holds = holds_next (λ t. part_constants (target_of t)) (λ zs. target_constants (targets_of zs)) (λ x xs. refl) list (left - 1)
          c.index-targets-left.result c.args.pool.now.keys c.targets.pool.keys c.pool_target.new.pool.keys less c.index-targets-left.is c.in_ok-pool_target.ensures
          (subst (λ i. Holds c.args.pool.now.keys c.targets.pool.keys (target_constants (targets_of (drop i list)))) (sym more) c.targets.invariant.holds);
    }
