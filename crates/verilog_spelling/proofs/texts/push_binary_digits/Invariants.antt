use Rattle.std.proofs.Common.{◌≡◌, ◌++◌}
use Rattle.verilog_spelling.specs.Spellings.{binary_digits}
use Rattle.verilog_spelling.proofs.texts.push_binary_digits.Given as goal

-- the text so far, and the digits that are left
abbrev pub invariant-loop-left : goal.invariant-loop-left
invariant-loop-left l = l.text.items ++ binary_digits l.left l.value l.mask ≡ l.fn.text.items ++ binary_digits l.fn.size l.value l.mask

abbrev pub decreases-loop-left : goal.decreases-loop-left
decreases-loop-left l = l.left
