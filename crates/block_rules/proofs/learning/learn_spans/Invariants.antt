use Rattle.std.proofs.Common.{◌||◌, drop}
use Rattle.typed_ir.specs.Valuations.{any_within}
use Rattle.block_rules.specs.Tables.{bits_of, Leads}
use Rattle.block_rules.proofs.learning.learn_spans.Given as goal

abbrev pub invariant-loop-span : goal.invariant-loop-span
invariant-loop-span l =
    Leads l.initial.table l.table l.initial.learned.items l.learned.items (λ s i. bits_of l.table s i || any_within (drop l.span-index l.spans) s i)
    (λ s i. bits_of l.initial.table s i || any_within l.spans s i)
