use Rattle.std.proofs.Common.{Option, sym, subst}
use Rattle.std.specs.Option.{option_map}
use Rattle.verilog_ast.specs.declared.expression.Expr.{Expr}
use Rattle.verilog_ast.specs.Views.{expression_of}
use Rattle.width_rules.specs.Entries.{scope_of}
use Rattle.elaborate.specs.Overrides.{value_by_name, one_by_name}
use Rattle.ls_text.specs.Answers.{Leads}
use Rattle.elaborate.specs.Views.{given_of}
use Rattle.elaborate.proofs.overriding.one_by_name.Goals as goal

pub returns-in-Some : goal.returns-in-Some
returns-in-Some c =
    subst (λ (o : Option Expr). Leads c.value_by_name.result (given_of c.value_by_name.new.given)
    (one_by_name (scope_of c.args.scope.now) c.args.names.now c.args.at c.args.name.0 (option_map expression_of o) (given_of c.args.given.now))) (sym c.in-Some.is)
    (subst (λ (e : Expr). Leads c.value_by_name.result (given_of c.value_by_name.new.given)
    (value_by_name (scope_of c.args.scope.now) c.args.names.now c.args.at c.args.name.0 (expression_of e) (given_of c.args.given.now))) c.get.ensures c.value_by_name.ensures)
