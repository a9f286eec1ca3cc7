use Rattle.std.proofs.Common.{◌≡◌, drop}
use Rattle.typed_ir.specs.Stmts.{are_targets}
use Rattle.typed_ir.specs.Targets.{targets_of}
use Rattle.typed_ir.specs.Views.{widths}
use Rattle.comb_order.proofs.legal.are_targets.Given as goal

abbrev pub invariant-loop-part : goal.invariant-loop-part
invariant-loop-part l = are_targets (targets_of (drop l.part-index l.parts)) (widths l.env) ≡ are_targets (targets_of l.parts) (widths l.env)
