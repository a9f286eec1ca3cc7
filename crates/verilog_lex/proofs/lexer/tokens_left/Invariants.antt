use Rattle.std.proofs.Common.{◌≡◌, map, length}
use Rattle.std.specs.List.{All}
use Rattle.ls_text.specs.Texts.{Grows}
use Rattle.verilog_lex.specs.Tokens.{with_front, lexeme_tokens}
use Rattle.verilog_lex.specs.Views.{said, IsNamed, left}
use Rattle.verilog_lex.proofs.lexer.tokens_left.Given as goal

-- the tokens so far, and those of what is left
abbrev pub invariant-loop-tokens : goal.invariant-loop-tokens
invariant-loop-tokens l = record {
  same : with_front (map (said l.names) l.tokens.items) (lexeme_tokens (left l.left)) ≡ lexeme_tokens (left l.cursor);
  named : All (IsNamed (length l.names)) l.tokens.items;
  grows : Grows l.fn.names l.names;
}

abbrev pub decreases-loop-tokens : goal.decreases-loop-tokens
decreases-loop-tokens l = length (left l.left)
