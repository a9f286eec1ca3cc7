-- Unrolling goes down the nesting; a loop, its turns, a branch and a block stand between an item and those in it.
use Rattle.std.proofs.Common.{◌≡◌, ◌+◌, ◌*◌, map, drop}
use Rattle.verilog_ast.specs.Views.{generate_item_of, branch_of, items_of}
use Rattle.width_rules.specs.Entries.{around}
use Rattle.gen_unroll.specs.Unrolled.{unrolled, chosen, each, turn_with}
use Rattle.gen_unroll.specs.Values.{constant_of}
use Rattle.gen_unroll.specs.Views.{steps_of, state_of, here_of}
use Rattle.gen_unroll.proofs.Lefts.{Left}
use Rattle.gen_unroll.proofs.unrolling.+walk.Given as goal

abbrev pub decreases-generate_item : goal.decreases-generate_item
decreases-generate_item l = 8 * goal.size-generate_item l

abbrev pub decreases-generate_items : goal.decreases-generate_items
decreases-generate_items l = 8 * goal.size-generate_items l + 1

abbrev pub decreases-block : goal.decreases-block
decreases-block l = 8 * goal.size-block l + 2

abbrev pub decreases-turns : goal.decreases-turns
decreases-turns l = 8 * goal.size-turns l + 3

abbrev pub decreases-generate_loop : goal.decreases-generate_loop
decreases-generate_loop l = 8 * goal.size-generate_loop l + 4

abbrev pub decreases-taken : goal.decreases-taken
decreases-taken l = 8 * goal.size-taken l

abbrev pub decreases-branches : goal.decreases-branches
decreases-branches l = 8 * goal.size-branches l + 5

abbrev pub invariant-generate_items-loop-item : goal.invariant-generate_items-loop-item
invariant-generate_items-loop-item l = record {
  left : Left (steps_of l.initial.w) (steps_of l.w)
      (unrolled (items_of (map generate_item_of l.items)) (here_of l.parent) (state_of l.initial.w))
      (unrolled (items_of (map generate_item_of (drop l.item-index l.items))) (here_of l.parent) (state_of l.w));
  kept : around l.w.scope ≡ around l.initial.w.scope;
}

abbrev pub invariant-turns-loop-value : goal.invariant-turns-loop-value
invariant-turns-loop-value l = record {
  left : Left (steps_of l.initial.w) (steps_of l.w)
      (each (turn_with (unrolled (items_of (map generate_item_of l.items))) (items_of (map generate_item_of l.items)) l.genvar l.label (here_of l.parent)) (map constant_of l.values) (state_of l.initial.w))
      (each (turn_with (unrolled (items_of (map generate_item_of l.items))) (items_of (map generate_item_of l.items)) l.genvar l.label (here_of l.parent)) (map constant_of (drop l.value-index l.values)) (state_of l.w));
  kept : around l.w.scope ≡ around l.initial.w.scope;
}

abbrev pub invariant-branches-loop-branch : goal.invariant-branches-loop-branch
invariant-branches-loop-branch l = record {
  steps : steps_of l.w ≡ steps_of l.initial.w;
  state : state_of l.w ≡ state_of l.initial.w;
  kept : around l.w.scope ≡ around l.initial.w.scope;
  left : chosen (items_of (map branch_of (drop l.branch-index l.all))) (here_of l.parent) (state_of l.initial.w)
      ≡ chosen (items_of (map branch_of l.all)) (here_of l.parent) (state_of l.initial.w);
}
