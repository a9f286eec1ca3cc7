use Rattle.ls_text.proofs.Growth.{grows_on}
use Rattle.verilog_lex.specs.Tokens.{lexeme_tokens}
use Rattle.verilog_lex.specs.Views.{left}
use Rattle.verilog_lex.proofs.Growth.{said_more, named_more, said_all, turned, turned_out}
use Rattle.verilog_lex.proofs.lexer.tokens_left.Goals as goal

pub loop-tokens-preserved : goal.loop-tokens-preserved
loop-tokens-preserved c = record {
  same = said_more _ _ _ _ c.in-Some.token (lexeme_tokens (left c.loop-tokens.left)) (lexeme_tokens (left c.in-Some.behind)) _ c.next_token.ensures.grows c.loop-tokens.invariant.named c.in_ok-push.ensures.items (turned _ _ _ _ c.in_ok-token.ensures.turn c.in-Some.is) c.loop-tokens.invariant.same;
  named = named_more _ _ _ _ c.in-Some.token c.next_token.ensures.grows c.loop-tokens.invariant.named c.in_ok-push.ensures.items (rw c.in-Some.is at c.in_ok-token.ensures.named);
  grows = grows_on _ _ _ c.loop-tokens.invariant.grows c.next_token.ensures.grows;
}

pub returns-clause-tokens : goal.returns-clause-tokens
returns-clause-tokens c =
    said_all _ _ c.loop-tokens.tokens.items (lexeme_tokens (left c.loop-tokens.left)) _ c.next_token.ensures.grows c.loop-tokens.invariant.named (turned_out _ _ _ c.in_ok-token.ensures.turn c.in_default.is) c.loop-tokens.invariant.same
