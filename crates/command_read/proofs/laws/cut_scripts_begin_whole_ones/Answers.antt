use Rattle.command_read.proofs.Cutting.{asks_begin, commands_begin}
use Rattle.command_read.proofs.laws.cut_scripts_begin_whole_ones.Goals as goal

pub returns-clause-asked : goal.returns-clause-asked
returns-clause-asked c = asks_begin

pub returns-clause-commands : goal.returns-clause-commands
returns-clause-commands c = commands_begin
