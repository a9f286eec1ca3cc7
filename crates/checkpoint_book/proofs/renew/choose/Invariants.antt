use Rattle.std.proofs.Common.{◌≡◌, ◌+◌, drop}
use Rattle.book_history.specs.Book.{chosen}
use Rattle.checkpoint_book.specs.Renew.{kept_count}
use Rattle.checkpoint_book.proofs.renew.choose.Given as goal

abbrev pub invariant-loop-i : goal.invariant-loop-i
invariant-loop-i g l =
    (kept_count l.limit l.segs ≡ l.i + kept_count l.limit (drop l.i l.segs)) × (chosen l.limit 0 l.segs ≡ chosen l.limit l.cycle (drop l.i l.segs))
