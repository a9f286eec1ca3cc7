use Rattle.std.proofs.Common.{Option, sym, subst}
use Rattle.std.specs.Option.{option_map}
use Rattle.verilog_ast.specs.declared.expression.Expr.{Expr}
use Rattle.verilog_ast.specs.Views.{expression_of, declaration_of}
use Rattle.width_rules.specs.Entries.{scope_of}
use Rattle.ls_text.specs.Answers.{Answers}
use Rattle.clock_rules.specs.Clocks.{connect, connection}
use Rattle.clock_rules.specs.Views.{clock_view}
use Rattle.clock_rules.proofs.clocking.connection.Goals as goal

pub returns-in-Some : goal.returns-in-Some
returns-in-Some c =
    subst (λ (o : Option Expr). Answers c.connect.result clock_view
    (connection (declaration_of c.args.of.now.body.now) (scope_of c.args.scope.now) c.args.port (option_map expression_of o) (clock_view c.args.clock))) (sym c.in-Some.is)
    (subst (λ (e : Expr). Answers c.connect.result clock_view
    (connect (declaration_of c.args.of.now.body.now) (scope_of c.args.scope.now) c.args.port (expression_of e) (clock_view c.args.clock))) c.get.ensures c.connect.ensures)
