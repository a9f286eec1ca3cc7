use Rattle.std.proofs.Common.{codes, ap, ◌∙◌}
use Rattle.ls_text.specs.declared.place.Place.{Place}
use Rattle.verilog_lex.specs.declared.kind.Kind.TheVariants as kind
use Rattle.verilog_lex.specs.Tokens.{plain}
use Rattle.verilog_lex.proofs.Growth.{said_push, named_more}
use Rattle.verilog_lex.proofs.lexer.with_end.Goals as goal

pub returns-clause-tokens : goal.returns-clause-tokens
returns-clause-tokens c =
    said_push _ _ c.args.tokens.items _ c.in_ok-end.end _ c.plain.ensures.grows c.requires.named c.in_ok-push.ensures.items
    (c.in_ok-end.ensures.token ∙ ap (λ (at : Place). plain kind.End at (codes "-")) c.end_place.ensures)

pub returns-clause-named : goal.returns-clause-named
returns-clause-named c =
    named_more _ _ c.args.tokens.items _ c.in_ok-end.end c.plain.ensures.grows c.requires.named c.in_ok-push.ensures.items c.in_ok-end.ensures.named
