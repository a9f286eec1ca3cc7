-- The texts of tokens that reading gives are words: neither a space nor a line end stands in them.
use Rattle.std.proofs.Common.{◌≡◌, ℕ, ◌<◌, ◌^◌, true, not, List, [], ◌∷◌, All, refl, sym, ap, subst, inl, inr, arith}
use Rattle.std.proofs.lemmas.Bool.{and_from, and_parts, ne_eqb}
use Rattle.std.proofs.lemmas.List.Elements.{All-nil, All-cons, All-head, All-tail}
use Rattle.ls_text.specs.Texts.{text_at}
use Rattle.verilog_lex.specs.declared.literal.Literal.{Literal}
use Rattle.verilog_lex.specs.declared.token.Token.{Token}
use Rattle.version_swap.specs.Proper.{IsFreeOf, IsToken, IsProper}
use Rattle.version_swap.specs.Told.{lacks, is_word, IsTokenTold}

free_lacks : (byte : ℕ) (text : List ℕ) → IsFreeOf byte text → lacks byte text ≡ true
free_lacks byte [] free = refl
free_lacks byte (c ∷ text) free = and_from _ _ (ap not (ne_eqb c byte free.0)) (free_lacks byte text free.1)

token_is_word : (names : List (List ℕ)) (t : Token) → IsToken t.kind (text_at names t.text.0) t.literal → is_word (text_at names t.text.0) ≡ true
token_is_word names t (inl h) =
    and_from _ _ (free_lacks 32 (text_at names t.text.0) h.spaceless) (free_lacks 10 (text_at names t.text.0) h.lineless)
token_is_word names t (inr (inl h)) = ap is_word h.shown
token_is_word names t (inr (inr h)) = ap is_word h.shown

token_is_small : (names : List (List ℕ)) (t : Token) → IsToken t.kind (text_at names t.text.0) t.literal → t.literal.size < 2 ^ 64
token_is_small names t (inl h) = subst (λ (l : Literal). l.size < 2 ^ 64) (sym h.empty) (omega arith)
token_is_small names t (inr (inl h)) = h.sized
token_is_small names t (inr (inr h)) = h.sized

pub proper_word : (names : List (List ℕ)) (t : Token) → IsProper names t → is_word (text_at names t.text.0) ≡ true
proper_word names t h = token_is_word names t h.1

token_told : (names : List (List ℕ)) (t : Token) → IsProper names t → IsTokenTold names t
token_told names t h = record { size = token_is_small names t h.1; text = (and_parts _ _ (proper_word names t h)).1 }

pub tokens_told : (names : List (List ℕ)) (s : List Token) → All (IsProper names) s → All (IsTokenTold names) s
tokens_told names [] proper = All-nil (IsTokenTold names)
tokens_told names (t ∷ s) proper =
    All-cons (IsTokenTold names) t s (token_told names t (All-head (IsProper names) t s proper))
    (tokens_told names s (All-tail (IsProper names) t s proper))
