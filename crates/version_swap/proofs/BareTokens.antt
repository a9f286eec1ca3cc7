-- Tokens without their places: their kinds, texts, literals and number stay.
use Rattle.std.proofs.Common.{◌≡◌, List, [], ◌∷◌, refl, sym, ap, subst}
use Rattle.verilog_lex.specs.declared.token.Token.{Token}
use Rattle.verilog_lex.specs.declared.kind.Kind.{Kind}
use Rattle.verilog_ast.specs.Places.{no_place}
use Rattle.version_swap.proofs.BareForms.{bare_token, bare_tokens}
use Rattle.verilog_expr.specs.Tokens.{next, place_at, Takes, taken}

same_next : (s : List Token) → next (bare_tokens s) ≡ next s
same_next [] = refl
same_next (t ∷ s) = refl

pub same_place : (s : List Token) → place_at (bare_tokens s) ≡ no_place
same_place [] = refl
same_place (t ∷ s) = refl

-- what is said of the next token's kind
pub at_next : (s : List Token) (P : Kind → Type 0) → P (next s) → P (next (bare_tokens s))
at_next s P h = subst P (sym (same_next s)) h

pub takes_so : {kind : Kind} {s r : List Token} {t : Token} → Takes kind s r t → Takes kind (bare_tokens s) (bare_tokens r) (bare_token t)
takes_so (taken cut is) = taken (ap bare_tokens cut) is
