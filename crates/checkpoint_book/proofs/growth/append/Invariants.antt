use Rattle.std.proofs.Common.{◌≡◌, ◌++◌, vec_capacity}
use Rattle.checkpoint_book.proofs.growth.append.Given as goal

abbrev pub invariant-loop-seg : goal.invariant-loop-seg
invariant-loop-seg g l = (l.segs.items ≡ l.initial.segs.items ++ l.yielded) × (vec_capacity l.segs ≡ vec_capacity l.initial.segs)
