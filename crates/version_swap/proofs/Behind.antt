-- What stands behind some tokens, and another list in its place.
use Rattle.std.proofs.Common.{◌≡◌, List, [], ◌∷◌, ◌++◌, refl, ap, ◌∙◌, subst}
use Rattle.verilog_lex.specs.declared.token.Token.{Token}
use Rattle.verilog_lex.specs.declared.kind.Kind.{Kind}
use Rattle.verilog_expr.specs.Tokens.{next, place_at, Takes, taken}

-- the same tokens stand before two ends, and there is one at least
pub record IsBefore (r e s p : List Token) : Type 0 where
  pub front : List Token
  pub old : s ≡ front ++ r
  pub new : p ≡ front ++ e
  pub kind : next s ≡ next p
  pub place : place_at s ≡ place_at p

-- what stands for the tokens up to some that are before the one end also stands before the other
pub record Behind (r e : List Token) (Stands : List Token → List Token → Type 0) (s p : List Token) : Type 0 where
  pub start : List Token
  pub before : IsBefore r e s start
  pub tree : Stands start p

-- what takes no token
pub stays : {r e : List Token} {Stands : List Token → List Token → Type 0} {s p : List Token} → IsBefore r e s p → Stands p p → Behind r e Stands s p
stays {p = p} b tree = record { start = p; before = b; tree = tree }

-- what is said of the next token's kind
pub at_behind : {r e s p : List Token} (P : Kind → Type 0) → IsBefore r e s p → P (next s) → P (next p)
at_behind P b h = subst P b.kind h

-- a token before them
pub token_behind : {r e : List Token} {kind : Kind} {s a p : List Token} {t : Token} → Takes kind s a t → IsBefore r e a p
    → Behind r e (λ s r. Takes kind s r t) s p
token_behind {r} {e} {p = p} (taken {token = t} cut is) b = record {
  start = t ∷ p;
  before = record {
    front = t ∷ b.front;
    old = cut ∙ ap (λ (l : List Token). t ∷ l) b.old;
    new = ap (λ (l : List Token). t ∷ l) b.new;
    kind = ap next cut;
    place = ap place_at cut;
  };
  tree = taken refl is;
}

-- the last token
pub token_last : {r : List Token} (e : List Token) {kind : Kind} {s : List Token} {t : Token} → Takes kind s r t
    → Behind r e (λ s r. Takes kind s r t) s e
token_last {r} e (taken {token = t} cut is) = record {
  start = t ∷ e;
  before = record { front = t ∷ []; old = cut; new = refl; kind = ap next cut; place = ap place_at cut };
  tree = taken refl is;
}
