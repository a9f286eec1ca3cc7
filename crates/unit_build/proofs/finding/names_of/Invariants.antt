use Rattle.std.proofs.Common.{◌≡◌, ◌≤◌, ℕ, length, drop}
use Rattle.unit_build.specs.Connections.{port_number}
use Rattle.unit_build.specs.Found.{port_in}
use Rattle.unit_build.proofs.finding.names_of.Given as goal

abbrev pub invariant-loop-left : goal.invariant-loop-left
invariant-loop-left l = record {
  within : l.left ≤ length l.ports;
  found : (q : ℕ) → port_in l.names q ≡ port_number q l.left (drop l.left l.ports);
}

abbrev pub decreases-loop-left : goal.decreases-loop-left
decreases-loop-left l = l.left
