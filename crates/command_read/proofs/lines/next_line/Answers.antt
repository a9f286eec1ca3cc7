use Rattle.std.proofs.Common.{arith}
use Rattle.std.proofs.lemmas.Bool.Decides.{nat_tests}
use Rattle.command_read.proofs.FirstLines.{no_bytes, lines_of_first, lines_of_last}
use Rattle.command_read.proofs.lines.next_line.Goals as goal

pub returns-then-is_empty-clause-line : goal.returns-then-is_empty-clause-line
returns-then-is_empty-clause-line c = no_bytes _ c.args.bytes.now (grind (arith, nat_tests))

pub returns-then-n-bytes-clause-line : goal.returns-then-n-bytes-clause-line
returns-then-n-bytes-clause-line c =
    lines_of_first _ c.args.bytes.now c.without_return.result.now c.split_at.result.0.now c.split_at-then-n-bytes.result.1.now c.line_len-n.result
    c.line_len-n.ensures.value (omega arith) c.split_at.ensures.front c.without_return.ensures c.split_at-then-n-bytes.ensures.back

pub returns-else-n-bytes-clause-line : goal.returns-else-n-bytes-clause-line
returns-else-n-bytes-clause-line c =
    lines_of_last c.args.bytes.now c.split_at-else-n-bytes.result.1.now c.line_len-n.result c.line_len-n.ensures.value (omega arith) (grind (arith, nat_tests)) (omega arith)
