use Rattle.std.proofs.Common.{subst}
use Rattle.verilog_ast.specs.declared.expression.Expr.{Expr}
use Rattle.verilog_ast.specs.Views.{expression_of}
use Rattle.width_rules.specs.Entries.{scope_of}
use Rattle.width_rules.specs.Scopes.{Scope}
use Rattle.gen_unroll.specs.Unrolled.{holds}
use Rattle.ls_text.specs.Answers.{Answers}
use Rattle.ls_text.proofs.Cases.{any_ok}
use Rattle.gen_unroll.proofs.looping.enters.Goals as goal

pub returns-clause-answer : goal.returns-clause-answer
returns-clause-answer c =
    subst (λ (s : Scope). Answers c.holds.result (λ b. b) (holds s (expression_of c.args.head.now.condition))) c.in_ok-declare.ensures.names
    (subst (λ (e : Expr). Answers c.holds.result (λ b. b) (holds (scope_of c.declare.new.scope) (expression_of e))) c.get.ensures c.holds.ensures)

pub returns-clause-around : goal.returns-clause-around
returns-clause-around c = any_ok c.holds.result c.in_ok-declare.ensures.around
