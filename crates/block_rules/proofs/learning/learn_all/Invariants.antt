use Rattle.std.proofs.Common.{◌||◌, drop}
use Rattle.typed_ir.specs.Touches.{touched}
use Rattle.block_rules.specs.Tables.{bits_of, Leads}
use Rattle.block_rules.proofs.learning.learn_all.Given as goal

abbrev pub invariant-loop-touch : goal.invariant-loop-touch
invariant-loop-touch l =
    Leads l.initial.table l.table l.initial.learned.items l.learned.items (λ s i. bits_of l.table s i || touched (drop l.touch-index l.touches) s i)
    (λ s i. bits_of l.initial.table s i || touched l.touches s i)
