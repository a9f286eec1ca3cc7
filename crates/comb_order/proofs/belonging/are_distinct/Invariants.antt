use Rattle.std.proofs.Common.{◌≡◌, ◌≤◌, ℕ, true, drop, length, nat_eq}
use Rattle.indexmap.specs.IndexSet.{contains}
use Rattle.typed_ir.specs.Orders.{is_member, are_distinct}
use Rattle.comb_order.proofs.belonging.are_distinct.Given as goal

abbrev pub invariant-loop-left : goal.invariant-loop-left
invariant-loop-left l = record {
  within : l.left ≤ length l.xs;
  has : (q : ℕ) → contains nat_eq l.set q ≡ is_member q (drop l.left l.xs);
  distinct : are_distinct (drop l.left l.xs) ≡ true;
}

abbrev pub decreases-loop-left : goal.decreases-loop-left
decreases-loop-left l = l.left
