use Rattle.std.proofs.Common.{◌≡◌, ◌++◌, map, drop}
use Rattle.typed_ir.specs.Statements.{stmt_of}
use Rattle.typed_ir.specs.Shifts.{shifted_stmt}
use Rattle.link.proofs.copying.add_blocks.Given as goal

abbrev pub invariant-loop-block : goal.invariant-loop-block
invariant-loop-block l =
    map stmt_of l.clocked.items ++ map (shifted_stmt l.first) (map stmt_of (drop l.block-index l.own))
    ≡ map stmt_of l.initial.clocked.items ++ map (shifted_stmt l.first) (map stmt_of l.own)
