use Rattle.std.proofs.Common.{sym, ◌∙◌}
use denote.Enum.Bare.{same_true, true_same}
use Rattle.verilog_lex.specs.contracts.kind.Kind.{the_type}
use Rattle.verilog_expr.proofs.parser.is_kind.Goals as goal

pub returns : goal.returns
returns c = ((λ is. same_true the_type tt _ _ (sym c.eq.ensures ∙ is)), (λ is. c.eq.ensures ∙ true_same the_type _ _ is))
