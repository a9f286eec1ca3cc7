use Rattle.std.proofs.Common.{◌≡◌, ◌<◌, ◌||◌, ℕ, drop}
use Rattle.typed_ir.specs.Valuations.{any_within}
use Rattle.typed_ir.specs.Nodes.{lane_spans}
use Rattle.typed_ir.specs.Touches.{touched}
use Rattle.typed_ir.proofs.touching.note_lanes.Given as goal

abbrev pub invariant-loop-lane : goal.invariant-loop-lane
invariant-loop-lane l = (s i : ℕ) → i < 128
    → (touched l.touches.items s i || any_within (lane_spans (drop l.lane-index l.lanes)) s i) ≡ (touched l.initial.touches.items s i || any_within (lane_spans l.lanes) s i)
