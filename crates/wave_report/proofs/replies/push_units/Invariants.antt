use Rattle.std.proofs.Common.{◌≡◌, ◌++◌, drop}
use Rattle.std.specs.List.{flat_map}
use Rattle.wave_report.specs.Replies.{unit_text}
use Rattle.wave_report.proofs.replies.push_units.Given as goal

-- the lines so far, and those of what is left
abbrev pub invariant-loop-unit : goal.invariant-loop-unit
invariant-loop-unit l = l.text.items ++ flat_map unit_text (drop l.unit-index l.units) ≡ l.initial.text.items ++ flat_map unit_text l.units
