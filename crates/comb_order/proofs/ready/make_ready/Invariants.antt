use Rattle.std.proofs.Common.{◌++◌, ◌<◌, ℕ, length}
use Rattle.std.specs.List.Sorted.{IsPermutation}
use Rattle.typed_ir.specs.Orders.{Member}
use Rattle.comb_order.specs.Ready.{nodes_in}
use Rattle.comb_order.proofs.ready.make_ready.Given as goal

abbrev pub invariant-loop-node : goal.invariant-loop-node
invariant-loop-node l = record {
  all : IsPermutation (l.initial.free.items ++ nodes_in l.initial.ready) (l.free.items ++ nodes_in l.ready);
  ranked : (t : ℕ) → Member t l.free.items → t < length l.ranks;
}

abbrev pub decreases-loop-node : goal.decreases-loop-node
decreases-loop-node l = l.free.len
