use Rattle.std.proofs.Common.{◌≡◌, ◌++◌, [], drop}
use Rattle.typed_ir.specs.Targets.{targets_of}
use Rattle.block_rules.specs.Paths.{index_flags}
use Rattle.block_rules.specs.Tables.{bits_of, Leads}
use Rattle.block_rules.proofs.reading.flag_parts.Given as goal

abbrev pub invariant-loop-part : goal.invariant-loop-part
invariant-loop-part l =
    Leads l.initial.known l.known [] l.learned.items (bits_of l.known) (bits_of l.known)
    × (l.flags.items ++ index_flags (bits_of l.written) (targets_of (drop l.part-index l.parts)) (bits_of l.known)
    ≡ l.initial.flags.items ++ index_flags (bits_of l.written) (targets_of l.parts) (bits_of l.initial.known))
