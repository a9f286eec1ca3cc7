use Rattle.std.proofs.Common.{Option, sym, subst}
use Rattle.std.specs.Option.{option_map}
use Rattle.verilog_ast.specs.declared.expression.Expr.{Expr}
use Rattle.verilog_ast.specs.Views.{expression_of}
use Rattle.width_rules.specs.Entries.{scope_of}
use Rattle.ls_text.specs.Answers.{Answers}
use Rattle.clock_rules.specs.Clocks.{clock_free, value_free}
use Rattle.clock_rules.proofs.clock_free.value_free.Goals as goal

pub returns-in-Some : goal.returns-in-Some
returns-in-Some c =
    subst (λ (o : Option Expr). Answers c.clock_free.result (λ x. x) (value_free (scope_of c.args.scope.now) (option_map expression_of o))) (sym c.in-Some.is)
    (subst (λ (e : Expr). Answers c.clock_free.result (λ x. x) (clock_free (scope_of c.args.scope.now) (expression_of e))) c.get.ensures c.clock_free.ensures)
