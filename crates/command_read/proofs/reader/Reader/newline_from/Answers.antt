use Rattle.std.proofs.Common.{drop, ap, ◌∙◌}
use Rattle.command_read.specs.LineEnds.{line_length}
use Rattle.command_read.specs.Readers.{left}
use Rattle.command_read.proofs.Ends.{seen_on}
use Rattle.command_read.proofs.reader.Reader.newline_from.Goals as goal

pub returns-clause-value : goal.returns-clause-value
returns-clause-value c =
    seen_on c.args.from c.args.seen c.line_len.result (left c.args.self.now) c.requires.low c.requires.none
    (c.line_len.ensures.value ∙ ap line_length (c.split_at.ensures.back ∙ ap (drop c.args.seen) c.left.ensures))
