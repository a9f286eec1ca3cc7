use Rattle.std.proofs.Common.{◌≡◌, length}
use Rattle.verilog_lex.specs.Views.{left, SameRest}
use Rattle.verilog_lex.proofs.read.next_here.Given as goal

-- what was cut so far is blank
abbrev pub invariant-loop-left : goal.invariant-loop-left
invariant-loop-left l = record {
  same : left l.left ≡ left l.cursor;
  rest : SameRest l.cursor l.left;
}

abbrev pub decreases-loop-left : goal.decreases-loop-left
decreases-loop-left l = length l.left.text.now
