use Rattle.std.proofs.Common.{length, arith}
use Rattle.verilog_pre.proofs.Turns.{whole, only}
use Rattle.verilog_pre.proofs.laws.texts_are_stretches.Goals as goal

pub returns-clause-whole : goal.returns-clause-whole
returns-clause-whole c at offset st text = whole (length text) at offset st text (omega arith)

pub returns-clause-only : goal.returns-clause-only
returns-clause-only c = only
