use Rattle.std.proofs.Common.{◌≡◌, ◌++◌, ◌-◌}
use Rattle.gen_unroll.specs.Numbers.{numbers_from}
use Rattle.gen_unroll.specs.NumberingViews.{numbered_in}
use Rattle.gen_unroll.proofs.heading.in_order.Given as goal

abbrev pub invariant-loop-k : goal.invariant-loop-k
invariant-loop-k l =
    l.declared.items ++ numbers_from l.k (l.count - l.k) (numbered_in l.numbering) ≡ numbers_from 0 l.count (numbered_in l.numbering)
