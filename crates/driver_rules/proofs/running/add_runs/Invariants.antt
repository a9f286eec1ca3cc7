use Rattle.std.proofs.Common.{◌≡◌, ◌≤◌, ◌<◌, ℕ, max, false}
use Rattle.typed_ir.specs.Touches.{has_bit}
use Rattle.driver_rules.specs.Told.{Puts, free_run}
use Rattle.driver_rules.proofs.running.add_runs.Given as goal

abbrev pub invariant-loop-i : goal.invariant-loop-i
invariant-loop-i l = record {
  from : l.first ≤ l.low;
  order : l.low ≤ l.i;
  top : l.i ≤ max l.first l.end;
  free : (b : ℕ) → l.low ≤ b → b < l.i → has_bit l.mask b ≡ false;
  puts : Puts l.by l.initial.drivers.items l.drivers.items (free_run l.signal l.mask l.first l.low);
}
