use Rattle.std.proofs.Common.{◌≡◌, map, take}
use Rattle.typed_ir.specs.States.{sized_value}
use Rattle.typed_ir.specs.Views.{widths}
use Rattle.state_layout.specs.Slots.{state_widths}
use Rattle.state_layout.proofs.slot_state.SlotState.filled.Given as goal

abbrev pub invariant-loop-place : goal.invariant-loop-place
invariant-loop-place l = record { filled : take l.place l.state ≡ map sized_value (take l.place l.values); alike : state_widths l.state ≡ widths l.values }
