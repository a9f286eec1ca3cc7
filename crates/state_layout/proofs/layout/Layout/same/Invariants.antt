use Rattle.std.proofs.Common.{◌≡◌, map, take}
use Rattle.state_layout.specs.declared.slot.Slot.{Slot}
use Rattle.state_layout.proofs.layout.Layout.same.Given as goal

abbrev pub invariant-loop-index : goal.invariant-loop-index
invariant-loop-index l = map (λ (s : Slot). s.width) (take l.index l.self-inside.slots.items) ≡ map (λ (s : Slot). s.width) (take l.index l.other-inside.slots.items)
