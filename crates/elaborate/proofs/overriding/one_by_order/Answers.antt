use Rattle.std.proofs.Common.{Option, sym, subst}
use Rattle.std.specs.Option.{option_map}
use Rattle.verilog_ast.specs.declared.expression.Expr.{Expr}
use Rattle.verilog_ast.specs.Views.{expression_of}
use Rattle.width_rules.specs.Entries.{scope_of}
use Rattle.ls_text.specs.Answers.{Answers}
use Rattle.gen_unroll.specs.Views.{override_view}
use Rattle.elaborate.specs.Overrides.{value_by_order, one_by_order}
use Rattle.elaborate.proofs.overriding.one_by_order.Goals as goal

pub returns-in-Some : goal.returns-in-Some
returns-in-Some c =
    subst (λ (o : Option Expr). Answers c.value_by_order.result override_view (one_by_order (scope_of c.args.scope.now) c.args.names.now (option_map expression_of o))) (sym c.in-Some.is)
    (subst (λ (e : Expr). Answers c.value_by_order.result override_view (value_by_order (scope_of c.args.scope.now) c.args.names.now (expression_of e))) c.get.ensures c.value_by_order.ensures)
