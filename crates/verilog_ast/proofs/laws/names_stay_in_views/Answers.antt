use Rattle.verilog_ast.proofs.ViewedNames.{expression_named, target_named, statement_named}
use Rattle.verilog_ast.proofs.ViewedItemNames.{declaration_named}
use Rattle.verilog_ast.proofs.laws.names_stay_in_views.Goals as goal

pub returns-clause-expressions : goal.returns-clause-expressions
returns-clause-expressions c = expression_named

pub returns-clause-targets : goal.returns-clause-targets
returns-clause-targets c = target_named

pub returns-clause-statements : goal.returns-clause-statements
returns-clause-statements c = statement_named

pub returns-clause-modules : goal.returns-clause-modules
returns-clause-modules c = declaration_named
