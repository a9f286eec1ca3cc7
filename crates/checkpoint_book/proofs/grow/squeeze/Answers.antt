use Rattle.std.proofs.Common.{arith, ◌∙◌, ◌*◌, ◌+◌}
use Rattle.checkpoint_book.proofs.Thins.{squeeze_last}
use Rattle.checkpoint_book.proofs.grow.squeeze.Goals as goal

pub returns-then-k-segs-clause-kept : goal.returns-then-k-segs-clause-kept
returns-then-k-segs-clause-kept g c =
    let k = c.loop-segs.k in
    squeeze_last k (2 * k) (k + 1) c.loop-segs.segs c.swap-then-k-segs.new.self (omega arith) (omega arith) (omega (arith, c.if-k-segs.true, c.loop-segs-test.false)) c.swap-then-k-segs.ensures.len c.swap-then-k-segs.ensures.by_index
    ∙ c.loop-segs.invariant.0
