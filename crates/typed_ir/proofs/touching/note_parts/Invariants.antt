use Rattle.std.proofs.Common.{◌≡◌, ◌<◌, ◌||◌, ℕ, map, drop}
use Rattle.typed_ir.specs.Valuations.{any_within}
use Rattle.typed_ir.specs.Stmts.{span_of}
use Rattle.typed_ir.specs.Targets.{targets_of}
use Rattle.typed_ir.specs.Touches.{touched}
use Rattle.typed_ir.proofs.touching.note_parts.Given as goal

abbrev pub invariant-loop-part : goal.invariant-loop-part
invariant-loop-part l = (s i : ℕ) → i < 128
    → (touched l.touches.items s i || any_within (map span_of (targets_of (drop l.part-index l.parts))) s i) ≡ (touched l.initial.touches.items s i || any_within (map span_of (targets_of l.parts)) s i)
