use Rattle.verilog_stmt.proofs.PlacedStatements.{placed}
use Rattle.verilog_stmt.proofs.laws.statements_have_places.Goals as goal

pub returns-clause-targets : goal.returns-clause-targets
returns-clause-targets c x s r h = placed h

pub returns-clause-statements : goal.returns-clause-statements
returns-clause-statements c g x s r h = placed h

pub returns-clause-arms : goal.returns-clause-arms
returns-clause-arms c g which x s r h = placed h

pub returns-clause-labels : goal.returns-clause-labels
returns-clause-labels c which x s r h = placed h

pub returns-clause-blocks : goal.returns-clause-blocks
returns-clause-blocks c l s r h = placed h
