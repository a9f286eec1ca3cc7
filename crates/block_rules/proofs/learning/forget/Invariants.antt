use Rattle.std.proofs.Common.{◌≡◌, ◌&&◌, ℕ, not, drop}
use Rattle.typed_ir.specs.Touches.{touched}
use Rattle.block_rules.specs.Tables.{size, bits_of}
use Rattle.block_rules.proofs.learning.forget.Given as goal

abbrev pub invariant-loop-touch : goal.invariant-loop-touch
invariant-loop-touch l =
    (size l.table ≡ size l.initial.table)
    × ((s i : ℕ) → (bits_of l.table s i && not (touched (drop l.touch-index l.touches) s i)) ≡ (bits_of l.initial.table s i && not (touched l.touches s i)))
