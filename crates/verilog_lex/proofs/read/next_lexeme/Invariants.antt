use Rattle.std.proofs.Common.{◌≡◌, drop}
use Rattle.verilog_lex.specs.Lexemes.{pieces_lexemes}
use Rattle.verilog_lex.specs.Views.{left}
use Rattle.verilog_lex.proofs.read.next_lexeme.Given as goal

-- the pieces so far have no lexeme
abbrev pub invariant-loop-index : goal.invariant-loop-index
invariant-loop-index l = left l.cursor ≡ pieces_lexemes l.cursor.files.now (drop l.index l.cursor.pieces.now)
