-- Tokens under other names: their kinds, their places and their number stay.
use Rattle.std.proofs.Common.{◌≡◌, ℕ, suc, List, [], ◌∷◌, length, refl, sym, ap, subst}
use Rattle.ls_text.specs.declared.name_id.NameId.{NameId}
use Rattle.verilog_lex.specs.declared.token.Token.{Token}
use Rattle.verilog_lex.specs.declared.kind.Kind.{Kind}
use Rattle.verilog_expr.specs.Tokens.{next, place_at, Differs, Takes, taken}
use Rattle.verilog_expr.specs.Renamed.{retoken, retokens}

pub same_next : (f : NameId → NameId) (s : List Token) → next (retokens f s) ≡ next s
same_next f [] = refl
same_next f (t ∷ s) = refl

pub same_place : (f : NameId → NameId) (s : List Token) → place_at (retokens f s) ≡ place_at s
same_place f [] = refl
same_place f (t ∷ s) = refl

pub same_length : (f : NameId → NameId) (s : List Token) → length (retokens f s) ≡ length s
same_length f [] = refl
same_length f (t ∷ s) = ap (λ (n : ℕ). suc n) (same_length f s)

-- what is said of the next token's kind
pub at_next : (f : NameId → NameId) (s : List Token) (P : Kind → Type 0) → P (next s) → P (next (retokens f s))
at_next f s P h = subst P (sym (same_next f s)) h

pub differs_so : (f : NameId → NameId) (kind : Kind) (s : List Token) → Differs kind s → Differs kind (retokens f s)
differs_so f kind [] h = h
differs_so f kind (t ∷ s) h = h

pub cut_so : (f : NameId → NameId) {s r : List Token} {t : Token} → s ≡ t ∷ r → retokens f s ≡ retoken f t ∷ retokens f r
cut_so f cut = ap (retokens f) cut

pub takes_so : (f : NameId → NameId) {kind : Kind} {s r : List Token} {t : Token} → Takes kind s r t
    → Takes kind (retokens f s) (retokens f r) (retoken f t)
takes_so f (taken cut is) = taken (cut_so f cut) is
