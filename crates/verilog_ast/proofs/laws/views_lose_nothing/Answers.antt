use Rattle.std.proofs.Common.{sym, ap, ◌∙◌}
use Rattle.verilog_ast.proofs.BackExpressions.{expression_back, target_back, back_expression, back_target}
use Rattle.verilog_ast.proofs.BackStatements.{statement_back, back_statement}
use Rattle.verilog_ast.proofs.BackItems.{body_back, back_body}
use Rattle.verilog_ast.proofs.laws.views_lose_nothing.Goals as goal

pub returns-clause-expressions : goal.returns-clause-expressions
returns-clause-expressions c = λ x y same. sym (back_expression x) ∙ ap expression_back same ∙ back_expression y

pub returns-clause-targets : goal.returns-clause-targets
returns-clause-targets c = λ x y same. sym (back_target x) ∙ ap target_back same ∙ back_target y

pub returns-clause-statements : goal.returns-clause-statements
returns-clause-statements c = λ x y same. sym (back_statement x) ∙ ap statement_back same ∙ back_statement y

pub returns-clause-modules : goal.returns-clause-modules
returns-clause-modules c = λ x y same. sym (back_body x) ∙ ap body_back same ∙ back_body y
