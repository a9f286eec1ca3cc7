use Rattle.std.proofs.Common.{◌≡◌, ◌&&◌, ◌||◌, ℕ, nat_lt, length, drop}
use Rattle.typed_ir.specs.Orders.{is_member}
use Rattle.design_steps.specs.Namings.{mark_at}
use Rattle.design_steps.proofs.sharing.mark.Given as goal

abbrev pub invariant-loop-signal : goal.invariant-loop-signal
invariant-loop-signal l = (s : ℕ)
    → (mark_at l.marks s || (nat_lt s (length l.initial.marks) && is_member s (drop l.signal-index l.signals)))
    ≡ (mark_at l.initial.marks s || (nat_lt s (length l.initial.marks) && is_member s l.signals))
