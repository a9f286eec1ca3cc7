-- What two readings have in common that begin at the same tokens: the kind of the next token, and the token.
use Rattle.std.proofs.Common.{◌≡◌, ◌≢◌, ◌∙◌, List, ◌∷◌, Bool, true, false, sym, ap}
use Rattle.verilog_lex.specs.declared.token.Token.{Token}
use Rattle.verilog_lex.specs.declared.kind.Kind.{Kind}
use Rattle.verilog_expr.specs.Tokens.{next, Takes, taken}

-- ---- a token that is taken: from the same tokens it is the same, and the same are left

pub kind_of : {kind : Kind} {s r : List Token} {t : Token} → Takes kind s r t → next s ≡ kind
kind_of (taken cut is) = ap next cut ∙ is

pub clash : {kind other : Kind} {s s' r r' : List Token} {t t' : Token} → kind ≢ other → Takes kind s r t → s ≡ s' → Takes other s' r' t' → ⊥
clash differs t q t' = differs (sym (kind_of t) ∙ ap next q ∙ kind_of t')

-- the first token and the rest are the same
same_cut : (s s' r r' : List Token) (t t' : Token) → s ≡ t ∷ r → s ≡ s' → s' ≡ t' ∷ r' → t ∷ r ≡ t' ∷ r'
same_cut s s' r r' t t' a q b = cc

pub one_rest : {kind other : Kind} {s s' r r' : List Token} {t t' : Token} → Takes kind s r t → s ≡ s' → Takes other s' r' t' → r ≡ r'
one_rest {s = s} {s' = s'} {r = r} {r' = r'} {t = t} {t' = t'} (taken a is) q (taken b is') = let h = same_cut s s' r r' t t' a q b in cc

pub one_token : {kind other : Kind} {s s' r r' : List Token} {t t' : Token} → Takes kind s r t → s ≡ s' → Takes other s' r' t' → t ≡ t'
one_token {s = s} {s' = s'} {r = r} {r' = r'} {t = t} {t' = t'} (taken a is) q (taken b is') = let h = same_cut s s' r r' t t' a q b in cc

pub same_token : {kind : Kind} {s q r p : List Token} {t u : Token} → Takes kind s r t → Takes kind q p u → s ≡ q → (t ≡ u) × (r ≡ p)
same_token h d same = (one_token h same d, one_rest h same d)

-- ---- the kind of the next token

-- the next token has two kinds
pub two_kinds : {A : Type 0} {kind other : Kind} {s q : List Token} → next s ≡ kind → next q ≡ other → s ≡ q → kind ≢ other → A
two_kinds a b same differs = absurd (differs (sym a ∙ ap next same ∙ b))

-- the next token has a kind, and hasn't
pub no_kind : {A : Type 0} {kind : Kind} {s q : List Token} → next s ≡ kind → next q ≢ kind → s ≡ q → A
no_kind a free same = absurd (free (sym (ap next same) ∙ a))

both : (b c : Bool) → b ≡ true → c ≡ false → b ≡ c → ⊥
both b c p q same = cc

-- the next token can begin a phrase, and can't
pub no_beginning : {A : Type 0} {s q : List Token} (begins : Kind → Bool) → begins (next s) ≡ true → begins (next q) ≡ false → s ≡ q → A
no_beginning begins go free same = absurd (both _ _ go free (ap (λ (l : List Token). begins (next l)) same))
