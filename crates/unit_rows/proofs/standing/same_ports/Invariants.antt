use Rattle.std.proofs.Common.{◌≡◌, drop}
use Rattle.unit_rows.proofs.standing.same_ports.Given as goal

abbrev pub invariant-loop-one : goal.invariant-loop-one
invariant-loop-one l = drop l.one-index l.left ≡ l.rest → l.left ≡ l.right
