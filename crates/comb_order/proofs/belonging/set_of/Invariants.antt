use Rattle.std.proofs.Common.{◌≡◌, ◌||◌, ℕ, drop, nat_eq}
use Rattle.indexmap.specs.IndexSet.{contains}
use Rattle.typed_ir.specs.Orders.{is_member}
use Rattle.comb_order.proofs.belonging.set_of.Given as goal

abbrev pub invariant-loop-x : goal.invariant-loop-x
invariant-loop-x l = (q : ℕ) → (contains nat_eq l.set q || is_member q (drop l.x-index l.xs)) ≡ is_member q l.xs
