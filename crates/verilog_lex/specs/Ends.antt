-- Where a list of tokens ends: a source text is a stream of lexical tokens (IEEE 1364-2005, clause 3.1), and a text of the
-- grammar is the whole stream (annex A.1.2), so its end is a token of its own.
use Rattle.std.specs.Prelude.{◌≡◌, ◌≢◌, List, [], ◌∷◌}
use Rattle.verilog_lex.specs.declared.kind.Kind.TheVariants.{End}
use Rattle.verilog_lex.specs.declared.token.Token.{Token}

-- the last token is the end, and no other is
abbrev pub EndsOnce : List Token → Type 0
EndsOnce [] = ⊥
EndsOnce (t ∷ []) = t.kind ≡ End
EndsOnce (t ∷ u ∷ ts) = (t.kind ≢ End) × EndsOnce (u ∷ ts)
