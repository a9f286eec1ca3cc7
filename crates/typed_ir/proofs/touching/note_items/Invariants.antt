use Rattle.std.proofs.Common.{◌≡◌, ◌<◌, ◌||◌, ℕ, map, drop}
use Rattle.typed_ir.specs.Stmts.{item_reads}
use Rattle.typed_ir.specs.Statements.{item_of}
use Rattle.typed_ir.specs.Touches.{touched}
use Rattle.typed_ir.proofs.touching.note_items.Given as goal

abbrev pub invariant-loop-item : goal.invariant-loop-item
invariant-loop-item l = (s i : ℕ) → i < 128
    → (touched l.touches.items s i || item_reads (map item_of (drop l.item-index l.items)) s i) ≡ (touched l.initial.touches.items s i || item_reads (map item_of l.items) s i)
