use Rattle.std.proofs.Common.{◌≡◌, ◌++◌, map, drop}
use Rattle.typed_ir.specs.Statements.{item_of}
use Rattle.block_rules.specs.Paths.{item_leaves, flags_of}
use Rattle.block_rules.specs.Tables.{bits_of}
use Rattle.block_rules.proofs.reading.flag_items.Given as goal

abbrev pub invariant-loop-item : goal.invariant-loop-item
invariant-loop-item l =
    l.flags.items ++ flags_of (bits_of l.written) (item_leaves (map item_of (drop l.item-index l.items))) (bits_of l.known)
    ≡ l.initial.flags.items ++ flags_of (bits_of l.written) (item_leaves (map item_of l.items)) (bits_of l.known)
