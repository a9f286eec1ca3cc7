use Rattle.verilog_expr.proofs.RenamedRun.{run_so}
use Rattle.verilog_expr.proofs.RenamedSpells.{spells_so}
use Rattle.verilog_expr.proofs.laws.expressions_may_be_renamed.Goals as goal

pub returns-clause-tree : goal.returns-clause-tree
returns-clause-tree c f x s r h = spells_so f h

pub returns-clause-taken : goal.returns-clause-taken
returns-clause-taken c f stack s r h = run_so f h

pub returns-clause-fault : goal.returns-clause-fault
returns-clause-fault c f stack s x h = run_so f h
