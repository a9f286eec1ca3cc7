use Rattle.statement_rules.proofs.Trees.{expression_is_written, target_is_written, statement_is_written, assigns_are_written}
use Rattle.statement_rules.proofs.size_laws.trees_are_written.Goals as goal

pub returns-clause-expressions : goal.returns-clause-expressions
returns-clause-expressions c = expression_is_written

pub returns-clause-targets : goal.returns-clause-targets
returns-clause-targets c = target_is_written

pub returns-clause-statements : goal.returns-clause-statements
returns-clause-statements c = statement_is_written

pub returns-clause-assignments : goal.returns-clause-assignments
returns-clause-assignments c = assigns_are_written
