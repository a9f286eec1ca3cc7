-- The nodes that can be placed next, with their turns.
use Rattle.std.specs.Prelude.{ℕ, List, map}
use Rattle.std.specs.BinaryHeap.{heap_items}
use Rattle.std.specs.declared.collections.binary_heap.BinaryHeap.{BinaryHeap}
use Rattle.std.specs.declared.cmp.Reverse.{Reverse}
use Rattle.std.specs.Global.{Global}
use Rattle.comb_order.specs.declared.turn.Turn.{Turn}

-- the nodes of a heap, in any order
abbrev pub nodes_in : BinaryHeap (Reverse Turn) Global → List ℕ
nodes_in heap = map (λ (r : Reverse Turn). r.0.node) (heap_items heap)
