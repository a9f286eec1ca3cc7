use Rattle.std.proofs.Common.{◌≡◌, ◌≤◌, length}
use Rattle.comb_order.proofs.ranking.ranked.Given as goal

abbrev pub invariant-loop-node : goal.invariant-loop-node
invariant-loop-node l = record {
  count : length l.ranks.items ≡ l.node;
  inside : l.node ≤ l.count;
}
