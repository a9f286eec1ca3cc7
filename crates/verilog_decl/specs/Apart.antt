-- Where names with commas between stand.
use Rattle.std.specs.Prelude.{◌≡◌, List, [], ◌∷◌, drop}
use Rattle.verilog_lex.specs.declared.token.Token.{Token}
use Rattle.verilog_ast.specs.declared.identifier.Identifier.{Identifier}
use Rattle.verilog_expr.specs.Tokens.{place_at}

-- the first at the first token, and each other two tokens behind the one before it
abbrev pub StandApart : List Identifier → List Token → Type 0
StandApart [] s = Unit {0}
StandApart (x ∷ xs) s = (x.at ≡ place_at s) × StandApart xs (drop 2 s)
