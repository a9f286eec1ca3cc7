use Rattle.std.proofs.Common.{◌≡◌, ◌<◌, ◌+◌, ◌-◌, ◌++◌, [], ◌∷◌, map, length, drop, refl, sym, subst, arith}
use Rattle.typed_ir.specs.Statements.{item_of}
use Rattle.design_steps.specs.Expressions.{constants_of}
use Rattle.design_steps.specs.Statements.{item_constants}
use Rattle.design_steps.specs.Pooled.{Holds}
use Rattle.design_steps.proofs.Holding.{holds_next}
use Rattle.design_steps.proofs.constant_walk.pool_items.Goals as goal

pub items-preserved : goal.items-preserved
items-preserved c =
    let list = c.args.items.now in
    let left = c.items.left in
    let less : left - 1 < length list = omega (arith, c.items-test.true, c.items.invariant.within) in
    let more : left - 1 + 1 ≡ left = omega (arith, c.items-test.true) in
    record {
      within = omega (arith, c.items.invariant.within);
      holds = holds_next (λ i. constants_of (item_of i).item ++ (item_of i).ignored ∷ []) (λ zs. item_constants (map item_of zs)) (λ x xs. refl) list (left - 1)
          c.index-items-left.result c.args.pool.now.keys c.items.pool.keys c.pool_item.new.pool.keys less c.index-items-left.is c.in_ok-pool_item.ensures
          (subst (λ i. Holds c.args.pool.now.keys c.items.pool.keys (item_constants (map item_of (drop i list)))) (sym more) c.items.invariant.holds);
    }
