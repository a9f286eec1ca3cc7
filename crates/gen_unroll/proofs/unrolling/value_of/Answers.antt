use Rattle.std.proofs.Common.{Option, subst}
use Rattle.verilog_ast.specs.declared.expression.Expr.{Expr}
use Rattle.verilog_ast.specs.Views.{expression_of}
use Rattle.width_rules.specs.Entries.{scope_of}
use Rattle.width_rules.specs.Scopes.{Scope}
use Rattle.gen_unroll.specs.Unrolled.{given_or}
use Rattle.ls_text.specs.Answers.{Answers}
use Rattle.gen_unroll.specs.Values.{ConstantValue, constant_of, evaluated}
use Rattle.gen_unroll.proofs.unrolling.value_of.Goals as goal

pub returns-in-None-clause-value : goal.returns-in-None-clause-value
returns-in-None-clause-value c =
    subst (λ (o : Option ConstantValue). Answers c.evaluated.result constant_of (given_or o (evaluated (scope_of c.args.w.now.scope) (expression_of c.args.parameter.now.value)))) c.in-None.ensures.value
    (subst (λ (s : Scope). Answers c.evaluated.result constant_of (evaluated s (expression_of c.args.parameter.now.value))) c.next_override.ensures.names
    (subst (λ (e : Expr). Answers c.evaluated.result constant_of (evaluated (scope_of c.next_override.new.w.scope) (expression_of e))) c.get.ensures c.evaluated.ensures))
