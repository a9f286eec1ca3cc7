use Rattle.std.proofs.Common.{◌≡◌, drop}
use Rattle.stimulus.specs.Rows.{are_same}
use Rattle.stimulus.specs.Settings.{pairs_of}
use Rattle.stimulus.proofs.settings.are_equal.Given as goal

abbrev pub invariant-loop-i : goal.invariant-loop-i
invariant-loop-i l = are_same (pairs_of (drop l.i l.one)) (pairs_of (drop l.i l.other)) ≡ are_same (pairs_of l.one) (pairs_of l.other)
