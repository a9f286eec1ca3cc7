use Rattle.std.proofs.Common.{◌≡◌, ◌≤◌, length}
use Rattle.comb_order.proofs.dividing.ends_of.Given as goal

abbrev pub invariant-loop-left : goal.invariant-loop-left
invariant-loop-left l = record {
  inside : l.left ≤ length l.rows;
  long : length l.ends.items ≡ length l.rows;
}

abbrev pub decreases-loop-left : goal.decreases-loop-left
decreases-loop-left l = l.left
