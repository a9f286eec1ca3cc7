use Rattle.std.proofs.Common.{arith}
use Rattle.std.proofs.lemmas.Bool.Decides.{nat_tests}
use Rattle.command_read.proofs.Words.{no_word, first_of, after_shorter}
use Rattle.command_read.proofs.scan.next_word.Goals as goal

pub returns-then-is_empty-clause-word : goal.returns-then-is_empty-clause-word
returns-then-is_empty-clause-word c =
    no_word c.args.line.now c.split_at.result.1.now c.gap_len.result c.gap_len.ensures.value c.split_at.ensures.back (grind (arith, nat_tests))

pub returns-clause-word : goal.returns-clause-word
returns-clause-word c =
    first_of c.args.line.now c.split_at.result.1.now c.split_at-2.result.0.now c.split_at-2.result.1.now c.gap_len.result c.first_len.result
    c.gap_len.ensures.value c.split_at.ensures.back (grind (arith, nat_tests)) c.first_len.ensures.value c.split_at-2.ensures.front c.split_at-2.ensures.back

pub returns-clause-shorter : goal.returns-clause-shorter
returns-clause-shorter c =
    after_shorter c.args.line.now c.split_at.result.1.now c.split_at-2.result.0.now c.split_at-2.result.1.now c.gap_len.result c.first_len.result
    c.gap_len.ensures.value c.split_at.ensures.back (grind (arith, nat_tests)) c.first_len.ensures.value c.split_at-2.ensures.front c.split_at-2.ensures.back
