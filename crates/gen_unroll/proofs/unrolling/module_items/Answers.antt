use Rattle.std.proofs.Common.{◌+◌, map, drop, None}
use Rattle.verilog_ast.specs.Views.{item_of, items_of}
use Rattle.gen_unroll.specs.Unrolled.{unrolled}
use Rattle.gen_unroll.specs.Views.{state_of}
use Rattle.gen_unroll.proofs.Lefts.{left_more, left_end, goes_stop}
use Rattle.gen_unroll.proofs.Listing.{items_next, items_none}
use Rattle.gen_unroll.proofs.unrolling.module_items.Goals as goal

pub returns-in-Err : goal.returns-in-Err
returns-in-Err c =
    goes_stop c.args.w.now c.loop-item.w c.module_item.new.w _ _ _ (λ next. unrolled (items_of (map item_of (drop (c.loop-item.item-index + 1) c.args.items.now))) None next) _
    c.loop-item.invariant
    (items_next item_of c.args.items.now c.loop-item.item-index c.item-item.result None (state_of c.loop-item.w) c.loop-item-test.true c.item-item.is)
    c.in-Err.ensures

pub loop-item-preserved : goal.loop-item-preserved
loop-item-preserved c =
    left_more _ _ _ _ _ _ (λ next. unrolled (items_of (map item_of (drop (c.loop-item.item-index + 1) c.args.items.now))) None next) _
    c.loop-item.invariant
    (items_next item_of c.args.items.now c.loop-item.item-index c.item-item.result None (state_of c.loop-item.w) c.loop-item-test.true c.item-item.is)
    c.in-Ok.ensures

pub returns : goal.returns
returns c =
    left_end _ _ _ _ (state_of c.loop-item.w) c.loop-item.invariant
    (items_none item_of c.args.items.now c.loop-item.item-index None (state_of c.loop-item.w) c.loop-item-test.false)
