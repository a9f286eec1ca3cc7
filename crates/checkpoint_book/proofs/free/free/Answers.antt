use Rattle.std.proofs.Common.{◌∙◌, ap, set, arith}
use Rattle.book_history.specs.declared.link.Link.{Link}
use Rattle.checkpoint_book.proofs.Frees.{freed_next}
use Rattle.checkpoint_book.proofs.free.free.Goals as goal

pub loop-i-preserved : goal.loop-i-preserved
loop-i-preserved g c =
    let s = c.index_mut-seg.result.now in (
      ap (λ (x : Link). set c.loop-i.segs.items c.loop-i.i (record { link = x; to = s.to; state = s.state })) c.freed_link-seg.ensures
          ∙ freed_next c.args.ticket c.loop-i.i c.args.segs.now.items c.loop-i.segs.items s c.loop-i.invariant.0 (omega (arith, c.len-i-end.ensures, c.loop-i-test.true)) c.index_mut-seg.ensures.value,
      c.loop-i.invariant.1,
    )
