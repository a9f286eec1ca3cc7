use Rattle.std.proofs.Common.{◌||◌, drop}
use Rattle.typed_ir.specs.Stmts.{certain}
use Rattle.typed_ir.specs.Targets.{targets_of}
use Rattle.block_rules.specs.Tables.{bits_of, Leads}
use Rattle.block_rules.proofs.learning.learn_parts.Given as goal

abbrev pub invariant-loop-part : goal.invariant-loop-part
invariant-loop-part l =
    Leads l.initial.table l.table l.initial.learned.items l.learned.items (λ s i. bits_of l.table s i || certain (targets_of (drop l.part-index l.parts)) s i)
    (λ s i. bits_of l.initial.table s i || certain (targets_of l.parts) s i)
