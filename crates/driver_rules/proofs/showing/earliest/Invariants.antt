use Rattle.std.proofs.Common.{◌≡◌, drop}
use Rattle.driver_rules.specs.Mentioned.{sooner, earliest}
use Rattle.driver_rules.proofs.showing.earliest.Given as goal

abbrev pub invariant-loop-number : goal.invariant-loop-number
invariant-loop-number l = sooner l.found (earliest (drop l.number-index l.numbers) l.mentions l.at) ≡ earliest l.numbers l.mentions l.at
