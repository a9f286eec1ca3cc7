use Rattle.std.proofs.Common.{◌≡◌, ◌++◌, drop}
use Rattle.unit_build.proofs.copying.copied_shapes.Given as goal

abbrev pub invariant-loop-shape : goal.invariant-loop-shape
invariant-loop-shape l = l.copy.items ++ drop l.shape-index l.shapes ≡ l.shapes
