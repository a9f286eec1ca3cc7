use Rattle.std.proofs.Common.{◌≡◌, drop}
use Rattle.typed_ir.specs.Shapes.{data_inputs}
use Rattle.unit_rows.proofs.standing.are_inputs.Given as goal

abbrev pub invariant-loop-place : goal.invariant-loop-place
invariant-loop-place l = l.rest ≡ data_inputs l.clock l.place (drop l.place l.ports) → l.inputs ≡ data_inputs l.clock 0 l.ports
