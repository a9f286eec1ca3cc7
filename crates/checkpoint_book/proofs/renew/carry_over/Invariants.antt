use Rattle.std.proofs.Common.{◌≡◌, ◌++◌, take, vec_capacity}
use Rattle.checkpoint_book.specs.Renew.{carried_over}
use Rattle.checkpoint_book.proofs.renew.carry_over.Given as goal

abbrev pub invariant-loop-seg : goal.invariant-loop-seg
invariant-loop-seg g l =
    (l.renewed.items ≡ l.initial.renewed.items ++ carried_over g.M.Machine.kit l.old l.new l.ops (take l.seg-index l.segs))
    × (vec_capacity l.renewed ≡ vec_capacity l.initial.renewed)
