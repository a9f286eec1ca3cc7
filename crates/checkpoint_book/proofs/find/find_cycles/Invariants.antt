use Rattle.std.proofs.Common.{◌≡◌, drop}
use Rattle.checkpoint_book.specs.Answers.{has_cycles}
use Rattle.checkpoint_book.proofs.find.find_cycles.Given as goal

abbrev pub invariant-loop-seg : goal.invariant-loop-seg
invariant-loop-seg g l = has_cycles l.a l.b l.from (drop l.seg-index l.segs) ≡ has_cycles l.a l.b 0 l.segs
