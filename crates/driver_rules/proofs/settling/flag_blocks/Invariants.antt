use Rattle.std.proofs.Common.{◌≡◌, ◌&&◌, ◌||◌, ℕ, nat_lt, length, map, drop}
use Rattle.typed_ir.specs.Items.{item_of}
use Rattle.driver_rules.specs.Targets.{flag_at, is_settled}
use Rattle.driver_rules.proofs.settling.flag_blocks.Given as goal

abbrev pub invariant-loop-item : goal.invariant-loop-item
invariant-loop-item l = (s : ℕ)
    → (flag_at l.flags s || (nat_lt s (length l.initial.flags) && is_settled (map item_of (drop l.item-index l.items)) s))
    ≡ (flag_at l.initial.flags s || (nat_lt s (length l.initial.flags) && is_settled (map item_of l.items) s))
