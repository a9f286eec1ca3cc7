use Rattle.std.proofs.Common.{◌≡◌, ◌++◌, map, drop}
use Rattle.typed_ir.specs.Shifts.{shifted_target}
use Rattle.typed_ir.specs.Targets.{targets_of}
use Rattle.typed_ir.proofs.shifting.shifted_targets.Given as goal

abbrev pub invariant-loop-part : goal.invariant-loop-part
invariant-loop-part l = targets_of l.copies.items ++ map (shifted_target l.first) (targets_of (drop l.part-index l.parts)) ≡ map (shifted_target l.first) (targets_of l.parts)
