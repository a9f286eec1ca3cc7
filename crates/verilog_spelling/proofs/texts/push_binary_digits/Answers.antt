use Rattle.std.proofs.Common.{arith}
use Rattle.verilog_spelling.proofs.Digits.{digit_pushed}
use Rattle.verilog_spelling.proofs.texts.push_binary_digits.Goals as goal

pub loop-left-preserved : goal.loop-left-preserved
loop-left-preserved c =
    digit_pushed c.loop-left.text.items c.push.new.self.items c.args.text.now.items c.loop-left.left c.args.size c.args.value c.args.mask c.binary_digit.result (omega (arith, c.loop-left-test.true)) c.in_ok-push.ensures.items c.binary_digit.ensures c.loop-left.invariant
