use Rattle.std.proofs.Common.{◌≡◌, ◌<◌, ◌||◌, ℕ, drop}
use Rattle.typed_ir.specs.Valuations.{any_within}
use Rattle.typed_ir.specs.Touches.{touched}
use Rattle.typed_ir.proofs.touching.note_spans.Given as goal

abbrev pub invariant-loop-span : goal.invariant-loop-span
invariant-loop-span l = (s i : ℕ) → i < 128
    → (touched l.touches.items s i || any_within (drop l.span-index l.spans) s i) ≡ (touched l.initial.touches.items s i || any_within l.spans s i)
