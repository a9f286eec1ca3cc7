use Rattle.std.proofs.Common.{◌≡◌, map, drop}
use Rattle.typed_ir.specs.Items.{item_of}
use Rattle.driver_rules.specs.Targets.{flag_at, all_target_faults}
use Rattle.driver_rules.proofs.targeting.check_targets.Given as goal

abbrev pub invariant-loop-item : goal.invariant-loop-item
invariant-loop-item l =
    all_target_faults l.declarations (flag_at l.settled) (map item_of (drop l.item-index l.items))
    ≡ all_target_faults l.declarations (flag_at l.settled) (map item_of l.items)
