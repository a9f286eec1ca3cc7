use Rattle.std.proofs.Common.{◌≡◌, take, vec_capacity}
use Rattle.checkpoint_book.proofs.grow.share_segs.Given as goal

abbrev pub invariant-loop-seg : goal.invariant-loop-seg
invariant-loop-seg g l = (l.shared.items ≡ take l.seg-index l.segs) × (vec_capacity l.shared ≡ vec_capacity l.initial.shared)
