use Rattle.std.proofs.Common.{◌≡◌, ◌&&◌, ◌||◌, ℕ, nat_lt, length, drop}
use Rattle.driver_rules.specs.Targets.{flag_at, names}
use Rattle.driver_rules.proofs.settling.flag_names.Given as goal

abbrev pub invariant-loop-span : goal.invariant-loop-span
invariant-loop-span l = (s : ℕ)
    → (flag_at l.flags s || (nat_lt s (length l.initial.flags) && names s (drop l.span-index l.spans)))
    ≡ (flag_at l.initial.flags s || (nat_lt s (length l.initial.flags) && names s l.spans))
