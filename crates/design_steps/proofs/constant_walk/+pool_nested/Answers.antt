use Rattle.std.proofs.Common.{◌≡◌, ◌<◌, ◌+◌, ◌-◌, map, length, drop, refl, sym, subst, arith}
use Rattle.typed_ir.specs.Statements.{stmt_of, arm_of, item_of, sequence_of, arms_before}
use Rattle.design_steps.specs.Statements.{item_constants, stmt_constants, arm_constants}
use Rattle.design_steps.specs.Pooled.{Holds}
use Rattle.design_steps.proofs.Holding.{holds_next, holds_arm, both_ok}
use Rattle.design_steps.proofs.constant_walk.+pool_nested.Goals as goal

pub pool_all-statements-preserved : goal.pool_all-statements-preserved
pool_all-statements-preserved t c =
    let list = c.args.list.now in
    let left = c.statements.left in
    let less : left - 1 < length list = omega (arith, c.statements-test.true, c.statements.invariant.within) in
    let more : left - 1 + 1 ≡ left = omega (arith, c.statements-test.true) in
    record {
      within = omega (arith, c.statements.invariant.within);
      holds = holds_next (λ st. stmt_constants (stmt_of st)) (λ zs. stmt_constants (sequence_of (map stmt_of zs))) (λ x xs. refl) list (left - 1)
          c.index-list-left.result c.args.pool.now.keys c.statements.pool.keys c.pool_statement.new.pool.keys less c.index-list-left.is c.in_ok-pool_statement.ensures
          (subst (λ i. Holds c.args.pool.now.keys c.statements.pool.keys (stmt_constants (sequence_of (map stmt_of (drop i list))))) (sym more) c.statements.invariant.holds);
    }

pub pool_arms-arms-preserved : goal.pool_arms-arms-preserved
pool_arms-arms-preserved t c =
    let list = c.args.arms.now in
    let otherwise = stmt_of c.args.otherwise.now in
    let left = c.arms.left in
    let less : left - 1 < length list = omega (arith, c.arms-test.true, c.arms.invariant.within) in
    let more : left - 1 + 1 ≡ left = omega (arith, c.arms-test.true) in
    record {
      within = omega (arith, c.arms.invariant.within);
      holds = holds_arm list otherwise (left - 1)
          c.index-arms-left.result c.args.pool.now.keys c.arms.pool.keys c.pool_arm.new.pool.keys less c.index-arms-left.is c.in_ok-pool_arm.ensures
          (subst (λ i. Holds c.args.pool.now.keys c.arms.pool.keys (arm_constants (arms_before (map arm_of (drop i list)) otherwise))) (sym more) c.arms.invariant.holds);
    }

pub pool_sides-returns : goal.pool_sides-returns
pool_sides-returns t c = both_ok c.pool_statement-2.result _ _ _ _ _ c.in_ok-pool_statement.ensures c.pool_statement-2.ensures

pub pool_arm-returns : goal.pool_arm-returns
pool_arm-returns t c =
    both_ok c.pool_statement.result _ _ _ _ _
    (subst (λ is. Holds c.args.pool.now.keys c.pool_items.new.pool.keys (item_constants (map item_of is))) c.deref.ensures.value c.in_ok-pool_items.ensures)
    c.pool_statement.ensures

pub pool_if-returns : goal.pool_if-returns
pool_if-returns t c = both_ok c.pool_sides.result _ _ _ _ _ c.in_ok-pool_form.ensures c.pool_sides.ensures

pub pool_case-returns : goal.pool_case-returns
pool_case-returns t c = both_ok c.pool_arms.result _ _ _ _ _ c.in_ok-pool_form.ensures c.pool_arms.ensures
