use Rattle.std.proofs.Common.{ap, arith, length, length-append, List}
use Rattle.book_history.specs.declared.segment.Segment.{Segment}
use Rattle.checkpoint_book.specs.Renew.{carried_over}
use Rattle.checkpoint_book.proofs.Renewals.{length-carried}
use Rattle.checkpoint_book.proofs.renew.renew_segs.Goals as goal

pub simulate-requires-clause-room : goal.simulate-requires-clause-room
simulate-requires-clause-room g c κs within =
    let k = g.M.Machine.kit in
    let carried = carried_over k c.args.old.now c.args.new.now c.args.ops.now c.args.kept.now in
    omega (
      arith,
      ap (λ (l : List (Segment g.row.M-State.Denot)). length l) c.in_ok-carry_over.ensures.items,
      length-append c.in_ok-segs.segs.items carried,
      length-carried k c.args.old.now c.args.new.now c.args.ops.now c.args.kept.now,
      ap (λ (l : List (Segment g.row.M-State.Denot)). length l) c.in_ok-segs.ensures.items,
      c.in_ok-segs.ensures.exact,
      c.carry_over.ensures.capacity,
      c.requires.few,
    )
