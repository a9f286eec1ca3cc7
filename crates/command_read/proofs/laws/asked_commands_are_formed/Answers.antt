use Rattle.command_read.proofs.Forms.{asks_formed, asks_formed_first}
use Rattle.command_read.proofs.laws.asked_commands_are_formed.Goals as goal

pub returns-clause-each : goal.returns-clause-each
returns-clause-each c = asks_formed

pub returns-clause-first : goal.returns-clause-first
returns-clause-first c = asks_formed_first
