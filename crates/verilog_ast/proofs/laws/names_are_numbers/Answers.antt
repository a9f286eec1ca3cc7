use Rattle.verilog_ast.proofs.RenamedViews.{same_expression, same_target}
use Rattle.verilog_ast.proofs.RenamedStatementViews.{same_statement}
use Rattle.verilog_ast.proofs.RenamedItemViews.{same_declaration}
use Rattle.verilog_ast.proofs.laws.names_are_numbers.Goals as goal

pub returns-clause-expressions : goal.returns-clause-expressions
returns-clause-expressions c = same_expression

pub returns-clause-targets : goal.returns-clause-targets
returns-clause-targets c = same_target

pub returns-clause-statements : goal.returns-clause-statements
returns-clause-statements c = same_statement

pub returns-clause-modules : goal.returns-clause-modules
returns-clause-modules c = same_declaration
