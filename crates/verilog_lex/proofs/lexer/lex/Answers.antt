use Rattle.verilog_lex.specs.Tokens.{tokens}
use Rattle.verilog_lex.proofs.Readings.{has_reading}
use Rattle.verilog_lex.proofs.lexer.lex.Goals as goal

pub returns-clause-tokens : goal.returns-clause-tokens
returns-clause-tokens c =
    (tokens c.args.files.now c.args.pieces.now, has_reading c.args.files.now c.args.pieces.now, c.tokens_of.ensures.tokens)
