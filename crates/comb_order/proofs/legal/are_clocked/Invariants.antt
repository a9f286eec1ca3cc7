use Rattle.std.proofs.Common.{◌≡◌, drop}
use Rattle.typed_ir.specs.Flats.{are_clocked}
use Rattle.typed_ir.specs.Views.{widths}
use Rattle.comb_order.proofs.legal.are_clocked.Given as goal

abbrev pub invariant-loop-block : goal.invariant-loop-block
invariant-loop-block l = are_clocked (drop l.block-index l.blocks) (widths l.env) ≡ are_clocked l.blocks (widths l.env)
