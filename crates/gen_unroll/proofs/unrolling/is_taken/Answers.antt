use Rattle.std.proofs.Common.{Option, sym, subst}
use Rattle.std.specs.Option.{option_map}
use Rattle.verilog_ast.specs.declared.expression.Expr.{Expr}
use Rattle.verilog_ast.specs.Views.{expression_of}
use Rattle.width_rules.specs.Entries.{scope_of}
use Rattle.gen_unroll.specs.Unrolled.{holds, is_taken}
use Rattle.ls_text.specs.Answers.{Answers}
use Rattle.gen_unroll.proofs.unrolling.is_taken.Goals as goal

pub returns-in-Some : goal.returns-in-Some
returns-in-Some c =
    subst (λ (o : Option Expr). Answers c.holds.result (λ b. b) (is_taken (scope_of c.args.w.now.scope) (option_map expression_of o))) (sym c.in-Some.is)
    (subst (λ (e : Expr). Answers c.holds.result (λ b. b) (holds (scope_of c.args.w.now.scope) (expression_of e))) c.get.ensures c.holds.ensures)
