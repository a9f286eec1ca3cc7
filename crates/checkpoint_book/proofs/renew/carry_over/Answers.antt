use Rattle.std.proofs.Common.{◌∙◌, ap, arith, length, length-append, length-take-le, List, take}
use Rattle.book_history.specs.declared.segment.Segment.{Segment}
use Rattle.checkpoint_book.specs.Renew.{carried_over}
use Rattle.checkpoint_book.proofs.Renewals.{carried_next, length-carried}
use Rattle.checkpoint_book.proofs.renew.carry_over.Goals as goal

pub push_reserved-requires : goal.push_reserved-requires
push_reserved-requires g c =
    let segs = c.args.segs.now in
    let i = c.loop-seg.seg-index in
    let count = ap (λ (l : List (Segment g.row.M-State.Denot)). length l) c.loop-seg.invariant.0 in
    omega (
      arith,
      count,
      c.loop-seg.invariant.1,
      c.loop-seg-test.true,
      length-append c.args.renewed.now.items (carried_over g.M.Machine.kit c.args.old.now c.args.new.now c.args.ops.now (take i segs)),
      length-carried g.M.Machine.kit c.args.old.now c.args.new.now c.args.ops.now (take i segs),
      length-take-le i segs (omega (arith, c.loop-seg-test.true)),
      c.requires.room,
    )

pub loop-seg-preserved : goal.loop-seg-preserved
loop-seg-preserved g c = (
  c.push_reserved.ensures.items
      ∙ carried_next g.M.Machine.kit c.args.old.now c.args.new.now c.args.ops.now c.args.segs.now c.args.renewed.now.items c.loop-seg.renewed.items c.loop-seg.seg-index c.seg-item.result c.in_ok-state.state
      c.loop-seg-test.true c.seg-item.is c.in_ok-state.ensures c.loop-seg.invariant.0,
  c.push_reserved.ensures.capacity ∙ c.loop-seg.invariant.1,
)
