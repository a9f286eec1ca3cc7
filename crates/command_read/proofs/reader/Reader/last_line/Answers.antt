use Rattle.command_read.specs.Readers.{left}
use Rattle.command_read.proofs.Ends.{end_of_last, no_last}
use Rattle.command_read.proofs.reader.Reader.last_line.Goals as goal

pub returns-then-from-end-clause-found : goal.returns-then-from-end-clause-found
returns-then-from-end-clause-found c = end_of_last c.args.self.now c.args.from c.args.end c.requires.place c.requires.all c.requires.ended c.if-from-end.true

pub returns-else-from-end-clause-none : goal.returns-else-from-end-clause-none
returns-else-from-end-clause-none c = no_last c.args.from c.args.end (left c.args.self.now) c.requires.all c.if-from-end.false
