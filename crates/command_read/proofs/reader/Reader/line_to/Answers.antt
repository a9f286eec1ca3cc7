use Rattle.std.proofs.Common.{◌-◌, take, drop, ap}
use Rattle.command_read.proofs.Ends.{end_of_line}
use Rattle.command_read.proofs.reader.Reader.line_to.Goals as goal

pub returns : goal.returns
returns c =
    end_of_line c.args.self.now c.args.from c.args.newline c.without_return-line.result.now _ c.requires.place c.requires.within
    (ap (λ xs. take (c.args.newline - c.args.from) (drop c.args.from xs)) c.left.ensures) c.without_return-line.ensures
