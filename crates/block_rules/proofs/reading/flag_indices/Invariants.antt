use Rattle.std.proofs.Common.{◌≡◌, ◌++◌, drop}
use Rattle.typed_ir.specs.Targets.{targets_of}
use Rattle.block_rules.specs.Paths.{index_leaves, flags_of}
use Rattle.block_rules.specs.Tables.{bits_of}
use Rattle.block_rules.proofs.reading.flag_indices.Given as goal

abbrev pub invariant-loop-part : goal.invariant-loop-part
invariant-loop-part l =
    l.flags.items ++ flags_of (bits_of l.written) (index_leaves (targets_of (drop l.part-index l.parts))) (bits_of l.known)
    ≡ l.initial.flags.items ++ flags_of (bits_of l.written) (index_leaves (targets_of l.parts)) (bits_of l.known)
