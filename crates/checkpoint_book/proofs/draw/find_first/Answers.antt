use Rattle.std.proofs.Common.{◌∙◌, sym, arith}
use Rattle.book_history.specs.Book.{takes}
use Rattle.checkpoint_book.proofs.Draws.{place_free}
use Rattle.checkpoint_book.proofs.draw.find_first.Goals as goal

pub returns-then-is_taken-clause-some : goal.returns-then-is_taken-clause-some
returns-then-is_taken-clause-some g c =
    place_free (takes c.args.by) c.args.first.now c.args.segs.now c.loop-i.i c.loop-i.a c.loop-i.start.now c.index-segs-i.result
    (omega arith) c.index-segs-i.is (sym c.is_taken.ensures ∙ c.if-is_taken.true) c.loop-i.invariant.0 c.loop-i.invariant.1
