use Rattle.std.proofs.Common.{◌≡◌, ◌≤◌, ◌-◌}
use Rattle.std.specs.List.{range_with_len}
use Rattle.design_steps.proofs.design_layout.counted.Given as goal

abbrev pub invariant-counting : goal.invariant-counting
invariant-counting l = record {
  within : l.i ≤ l.count;
  so_far : l.places.items ≡ range_with_len l.from l.i;
}

abbrev pub decreases-counting : goal.decreases-counting
decreases-counting l = l.count - l.i
