use Rattle.std.proofs.Common.{Option, sym, subst}
use Rattle.std.specs.Option.{option_map}
use Rattle.verilog_ast.specs.declared.range.Range.{Range}
use Rattle.verilog_ast.specs.Views.{range_of as range_view}
use Rattle.width_rules.specs.Entries.{scope_of}
use Rattle.ls_text.specs.Answers.{Answers}
use Rattle.gen_unroll.specs.Views.{bit_range_of}
use Rattle.gen_unroll.specs.Declarations.{range_or_none}
use Rattle.gen_unroll.proofs.stepping.range_or_none.Goals as goal

pub returns-in-Some : goal.returns-in-Some
returns-in-Some c =
    subst (λ (o : Option Range). Answers c.range_of.result (option_map bit_range_of) (range_or_none (scope_of c.args.scope.now) (option_map range_view o))) (sym c.in-Some.is)
    c.range_of.ensures
