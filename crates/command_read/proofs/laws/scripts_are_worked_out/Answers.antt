use Rattle.command_read.proofs.Worked.{lines_worked, cut_worked, refused_worked, values_worked, block_worked, unfinished_worked, open_worked}
use Rattle.command_read.proofs.laws.scripts_are_worked_out.Goals as goal

pub returns-clause-lines : goal.returns-clause-lines
returns-clause-lines c = lines_worked

pub returns-clause-cut : goal.returns-clause-cut
returns-clause-cut c = cut_worked

pub returns-clause-refused : goal.returns-clause-refused
returns-clause-refused c = refused_worked

pub returns-clause-values : goal.returns-clause-values
returns-clause-values c = values_worked

pub returns-clause-block : goal.returns-clause-block
returns-clause-block c = block_worked

pub returns-clause-unfinished : goal.returns-clause-unfinished
returns-clause-unfinished c = unfinished_worked

pub returns-clause-unended : goal.returns-clause-unended
returns-clause-unended c = open_worked
