use Rattle.std.proofs.Common.{◌≡◌, map, drop}
use Rattle.typed_ir.specs.Statements.{stmt_of}
use Rattle.comb_order.specs.Parts.{blocks_in}
use Rattle.comb_order.proofs.belonging.write_registers.Given as goal

abbrev pub invariant-loop-block : goal.invariant-loop-block
invariant-loop-block l = blocks_in l.registers.listed.now (map stmt_of (drop l.block-index l.blocks)) ≡ blocks_in l.registers.listed.now (map stmt_of l.blocks)
