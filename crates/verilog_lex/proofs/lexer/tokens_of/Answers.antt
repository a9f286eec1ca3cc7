use Rattle.std.proofs.Common.{◌++◌, ◌∷◌, [], codes, Ok, sym, ap, ◌∙◌}
use Rattle.ls_text.specs.Readings.{◌>>=◌}
use Rattle.ls_text.proofs.Refused.{refused_on}
use Rattle.verilog_lex.specs.declared.kind.Kind.TheVariants as kind
use Rattle.verilog_lex.specs.Lexemes.{text_lexemes}
use Rattle.verilog_lex.specs.Tokens.{plain, end_place, tokens}
use Rattle.verilog_lex.proofs.Endings.{ends_once, can_show}
use Rattle.verilog_lex.proofs.lexer.tokens_of.Goals as goal

pub returns-in_ok-with_end-in-Ok-clause-tokens : goal.returns-in_ok-with_end-in-Ok-clause-tokens
unfolding tokens text_lexemes
returns-in_ok-with_end-in-Ok-clause-tokens c =
    ap (λ read. read >>= λ ts. Ok (ts ++ plain kind.End (end_place c.args.files.now) (codes "-") ∷ [])) c.in-Ok.ensures.tokens
    ∙ ap Ok (sym c.in_ok-with_end-in-Ok.ensures.tokens)

pub returns-in-Err-clause-tokens : goal.returns-in-Err-clause-tokens
unfolding tokens text_lexemes
returns-in-Err-clause-tokens c = refused_on _ c.in-Err.refusal _ _ c.in-Err.ensures.tokens

pub returns-in_ok-with_end-in-Ok-clause-ends : goal.returns-in_ok-with_end-in-Ok-clause-ends
returns-in_ok-with_end-in-Ok-clause-ends c = ends_once _ c.args.files.now c.args.pieces.now _ (returns-in_ok-with_end-in-Ok-clause-tokens c)

pub returns-in-Err-clause-known : goal.returns-in-Err-clause-known
returns-in-Err-clause-known c = can_show _ _ c.args.files.now c.args.pieces.now c.in-Err.refusal (returns-in-Err-clause-tokens c)
