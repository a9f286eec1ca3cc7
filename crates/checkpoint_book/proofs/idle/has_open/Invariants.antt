use Rattle.std.proofs.Common.{◌≡◌, drop}
use Rattle.checkpoint_book.specs.Idle.{any_open}
use Rattle.checkpoint_book.proofs.idle.has_open.Given as goal

abbrev pub invariant-loop-seg : goal.invariant-loop-seg
invariant-loop-seg g l = any_open (drop l.seg-index l.segs) ≡ any_open l.segs
