-- Where the last token of a phrase stands.
use Rattle.std.specs.Prelude.{◌≡◌, ◌-◌, List, length, drop}
use Rattle.verilog_lex.specs.declared.token.Token.{Token}
use Rattle.verilog_ast.specs.declared.identifier.Identifier.{Identifier}
use Rattle.verilog_expr.specs.Tokens.{place_at}

-- the name has the place of the token right before what is left
abbrev pub StandsLast : Identifier → List Token → List Token → Type 0
StandsLast name s r = name.at ≡ place_at (drop (length s - length r - 1) s)
