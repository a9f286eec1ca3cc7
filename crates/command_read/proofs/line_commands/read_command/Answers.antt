use Rattle.std.proofs.Common.{length, rules, arith}
use Rattle.command_read.proofs.line_commands.read_command.Goals as goal

pub returns-then-eq-3-clause-gives : goal.returns-then-eq-3-clause-gives
returns-then-eq-3-clause-gives c = search (rules, c.read_show.ensures.gives c.args.names.now)

pub returns-then-eq-3-clause-within : goal.returns-then-eq-3-clause-within
returns-then-eq-3-clause-within c = c.read_show.ensures.within (length c.args.names.now)

pub returns-then-eq-5-clause-gives : goal.returns-then-eq-5-clause-gives
returns-then-eq-5-clause-gives c = search (rules, c.lone.ensures.gives c.args.names.now)

pub returns-then-eq-6-clause-gives : goal.returns-then-eq-6-clause-gives
returns-then-eq-6-clause-gives c = grind (arith, c.lone-then-eq-6.ensures.gives c.args.names.now)
