use Rattle.std.proofs.Common.{◌≡◌, ◌&&◌, ◌||◌, ℕ, not, drop}
use Rattle.typed_ir.specs.Orders.{is_member}
use Rattle.block_rules.specs.Paths.{is_open}
use Rattle.block_rules.specs.Tables.{size, bits_of, is_named, AreTaken}
use Rattle.block_rules.proofs.paths.take_signals.Given as goal

abbrev pub invariant-loop-touch : goal.invariant-loop-touch
invariant-loop-touch l =
    AreTaken l.found.items l.written l.known
    × (size l.written ≡ size l.initial.written)
    × ((s : ℕ) → (is_member s l.found.items || (is_named (drop l.touch-index l.touches) s && is_open (bits_of l.written) (bits_of l.known) s))
    ≡ (is_named l.touches s && is_open (bits_of l.initial.written) (bits_of l.known) s))
    × ((s i : ℕ) → (bits_of l.written s i && not (is_named (drop l.touch-index l.touches) s)) ≡ (bits_of l.initial.written s i && not (is_named l.touches s)))
