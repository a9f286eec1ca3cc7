use Rattle.std.proofs.Common.{◌≡◌, ◌&&◌, ◌||◌, ◌<◌, ℕ, drop}
use Rattle.typed_ir.specs.Touches.{touched}
use Rattle.block_rules.specs.Tables.{bits_of}
use Rattle.block_rules.proofs.learning.shared.Given as goal

abbrev pub invariant-loop-touch : goal.invariant-loop-touch
invariant-loop-touch l = (s i : ℕ) → i < 128
    → (touched l.kept.items s i || (touched (drop l.touch-index l.touches) s i && bits_of l.table s i)) ≡ (touched l.touches s i && bits_of l.table s i)
