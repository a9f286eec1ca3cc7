use Rattle.std.proofs.Common.{map, drop, None}
use Rattle.verilog_ast.specs.Views.{item_of, items_of}
use Rattle.gen_unroll.specs.Unrolled.{unrolled}
use Rattle.gen_unroll.specs.Views.{steps_of, state_of}
use Rattle.gen_unroll.proofs.Lefts.{Left}
use Rattle.gen_unroll.proofs.unrolling.module_items.Given as goal

abbrev pub invariant-loop-item : goal.invariant-loop-item
invariant-loop-item l =
    Left (steps_of l.initial.w) (steps_of l.w)
    (unrolled (items_of (map item_of l.items)) None (state_of l.initial.w))
    (unrolled (items_of (map item_of (drop l.item-index l.items))) None (state_of l.w))
