use Rattle.std.proofs.Common.{arith}
use Rattle.verilog_spelling.proofs.Digits.{no_digit}
use Rattle.verilog_spelling.proofs.texts.binary_digit.Goals as goal

pub returns-then-bit-ge128 : goal.returns-then-bit-ge128
returns-then-bit-ge128 c = no_digit c.args.bit c.args.value c.args.mask (omega arith) (omega arith) (omega arith)
