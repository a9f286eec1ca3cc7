-- Tokens of one spelling are the same but for places.
use Rattle.std.proofs.Common.{◌≡◌, ◌∙◌, ℕ, Bool, true, false, true≢false, List, [], ◌∷◌, ◌++◌, refl, sym, ap, ap₂, subst, inl, inr}
use Rattle.std.specs.List.{All}
use Rattle.std.proofs.lemmas.List.Elements.{All-head, All-tail}
use Rattle.std.proofs.lemmas.Option.{none-some, same_Some}
use Rattle.ls_text.specs.Texts.{HasEachOnce, text_at}
use Rattle.verilog_lex.specs.declared.token.Token.{Token}
use Rattle.verilog_lex.specs.declared.kind.Kind.{Kind}
use Rattle.verilog_lex.specs.declared.literal.Literal.{Literal}
use Rattle.verilog_ast.specs.Places.{no_place}
use Rattle.verilog_ast.proofs.Equal.{ap₃, ap₄}
use Rattle.verilog_spelling.specs.Spellings.{number_text, pattern_text, text_of_kind, token_text, spaced, spelling}
use Rattle.version_swap.specs.Proper.{IsFreeOf, text_kind, IsWritten, IsNumber, IsPattern, IsToken, IsProper}
use Rattle.version_swap.proofs.BareForms.{bare_token, bare_tokens}
use Rattle.version_swap.proofs.SpelledTexts.{EndsHere, cut_first}
use Rattle.version_swap.proofs.Patterns.{number_tells, no_pattern, pattern_tells, number_free, pattern_free}
use Rattle.version_swap.proofs.SpellingWords.{other_text, begins_number, written_begins, number_begins, pattern_begins}

-- ---- the text of a token

module _ (names : List (List ℕ)) (t : Token) where
  written_text : IsWritten t.kind (text_at names t.text.0) t.literal → token_text names t ≡ text_at names t.text.0
  written_text h = other_text t.kind names t (written_begins (text_at names t.text.0) t.kind h.listed).1

  numbered_text : IsNumber t.kind (text_at names t.text.0) t.literal → token_text names t ≡ number_text t.literal
  numbered_text h = ap (λ (kind : Kind). text_of_kind kind names t) h.number

  wild_text : IsPattern t.kind (text_at names t.text.0) t.literal → token_text names t ≡ pattern_text t.literal
  wild_text h = ap (λ (kind : Kind). text_of_kind kind names t) h.wild

  text_free : IsToken t.kind (text_at names t.text.0) t.literal → IsFreeOf 32 (token_text names t)
  text_free (inl h) = subst (IsFreeOf 32) (sym (written_text h)) h.spaceless
  text_free (inr (inl h)) = subst (IsFreeOf 32) (sym (numbered_text h)) (number_free t.literal h.sized)
  text_free (inr (inr h)) = subst (IsFreeOf 32) (sym (wild_text h)) (pattern_free t.literal h.sized)

  text_some : IsToken t.kind (text_at names t.text.0) t.literal → [] ≡ token_text names t → ⊥
  text_some (inl h) none = none-some t.kind (ap text_kind (none ∙ written_text h) ∙ h.listed)
  text_some (inr (inl h)) none = true≢false (sym (number_begins t.literal h.sized) ∙ ap begins_number (sym (none ∙ numbered_text h)))
  text_some (inr (inr h)) none = true≢false (sym (pattern_begins t.literal h.sized) ∙ ap begins_number (sym (none ∙ wild_text h)))

-- ---- tokens of one text

put : (t u : Token) → t.kind ≡ u.kind → t.text.0 ≡ u.text.0 → t.literal ≡ u.literal → bare_token t ≡ bare_token u
put t u kind text literal =
    ap₃ (λ (kind : Kind) (id : ℕ) (l : Literal). record { kind = kind; at = no_place; text = record { 0 = id }; literal = l }) kind text literal

same_literal : (l m : Literal) → l.size ≡ m.size → l.signed ≡ m.signed → l.value ≡ m.value → l.mask ≡ m.mask → l ≡ m
same_literal l m size signed value mask =
    ap₄ (λ (size : ℕ) (signed : Bool) (value mask : ℕ). record { size = size; signed = signed; value = value; mask = mask }) size signed value mask

-- a text doesn't both begin a number and not
apart : (a b : List ℕ) → begins_number a ≡ true → begins_number b ≡ false → a ≡ b → ⊥
apart a b begins free same = true≢false (sym begins ∙ ap begins_number same ∙ free)

pub same_token : (names : List (List ℕ)) (t u : Token) → HasEachOnce names → IsProper names t → IsProper names u
    → token_text names t ≡ token_text names u
    → bare_token t ≡ bare_token u
same_token names t u once proper proper' same = by proper.1 proper'.1
  where
    id : text_at names t.text.0 ≡ text_at names u.text.0 → t.text.0 ≡ u.text.0
    id is = once t.text.0 u.text.0 proper.0 proper'.0 is

    by : IsToken t.kind (text_at names t.text.0) t.literal → IsToken u.kind (text_at names u.text.0) u.literal → bare_token t ≡ bare_token u
    by (inl a) (inl b) =
        let text = sym (written_text names t a) ∙ same ∙ written_text names u b in
        put t u (same_Some t.kind u.kind (sym a.listed ∙ ap text_kind text ∙ b.listed)) (id text) (a.empty ∙ sym b.empty)
    by (inl a) (inr (inl b)) =
        absurd (apart (number_text u.literal) (text_at names t.text.0) (number_begins u.literal b.sized)
        (written_begins (text_at names t.text.0) t.kind a.listed).0 (sym (sym (written_text names t a) ∙ same ∙ numbered_text names u b)))
    by (inl a) (inr (inr b)) =
        absurd (apart (pattern_text u.literal) (text_at names t.text.0) (pattern_begins u.literal b.sized)
        (written_begins (text_at names t.text.0) t.kind a.listed).0 (sym (sym (written_text names t a) ∙ same ∙ wild_text names u b)))
    by (inr (inl a)) (inl b) =
        absurd (apart (number_text t.literal) (text_at names u.text.0) (number_begins t.literal a.sized)
        (written_begins (text_at names u.text.0) u.kind b.listed).0 (sym (numbered_text names t a) ∙ same ∙ written_text names u b))
    by (inr (inl a)) (inr (inl b)) =
        let text = sym (numbered_text names t a) ∙ same ∙ numbered_text names u b in
        let tells = number_tells t.literal u.literal a.sized b.sized a.small b.small text in
        put t u (a.number ∙ sym b.number) (id (a.shown ∙ sym b.shown))
        (same_literal t.literal u.literal tells.0 tells.1 tells.2 (a.plain ∙ sym b.plain))
    by (inr (inl a)) (inr (inr b)) =
        absurd (no_pattern t.literal u.literal a.sized b.sized (sym (numbered_text names t a) ∙ same ∙ wild_text names u b))
    by (inr (inr a)) (inl b) =
        absurd (apart (pattern_text t.literal) (text_at names u.text.0) (pattern_begins t.literal a.sized)
        (written_begins (text_at names u.text.0) u.kind b.listed).0 (sym (wild_text names t a) ∙ same ∙ written_text names u b))
    by (inr (inr a)) (inr (inl b)) =
        absurd (no_pattern u.literal t.literal b.sized a.sized (sym (sym (wild_text names t a) ∙ same ∙ numbered_text names u b)))
    by (inr (inr a)) (inr (inr b)) =
        let tells = pattern_tells t.literal u.literal a.sized b.sized a.small b.small a.narrow b.narrow a.apart b.apart
        (sym (wild_text names t a) ∙ same ∙ wild_text names u b) in
        put t u (a.wild ∙ sym b.wild) (id (a.shown ∙ sym b.shown))
        (same_literal t.literal u.literal tells.0 (a.unsigned ∙ sym b.unsigned) tells.1 tells.2)

-- ---- tokens of one spelling

spaced_ends : (names : List (List ℕ)) (s : List Token) → EndsHere 32 (spaced names s)
spaced_ends names [] = tt
spaced_ends names (t ∷ s) = refl

nothing : (a x : List ℕ) → [] ≡ a ++ x → [] ≡ a
nothing [] x none = refl
nothing (c ∷ a) x none = absurd cc

module _ (names : List (List ℕ)) (once : HasEachOnce names) where
  cut : (t u : Token) (s q : List Token) → IsProper names t → IsProper names u
      → token_text names t ++ spaced names s ≡ token_text names u ++ spaced names q
      → (bare_token t ≡ bare_token u) × (spaced names s ≡ spaced names q)
  cut t u s q proper proper' same =
      let a = cut_first 32 (token_text names t) (token_text names u) (spaced names s) (spaced names q) (text_free names t proper.1)
      (text_free names u proper'.1) (spaced_ends names s) (spaced_ends names q) same in
      (same_token names t u once proper proper' a.0, a.1)

  same_spaced : (s q : List Token) → All (IsProper names) s → All (IsProper names) q → spaced names s ≡ spaced names q → bare_tokens s ≡ bare_tokens q
  same_spaced [] [] all all' same = refl
  same_spaced [] (u ∷ q) all all' same = absurd cc
  same_spaced (t ∷ s) [] all all' same = absurd cc
  same_spaced (t ∷ s) (u ∷ q) all all' same =
      let rest : token_text names t ++ spaced names s ≡ token_text names u ++ spaced names q = cc in
      let a = cut t u s q (All-head (IsProper names) t s all) (All-head (IsProper names) u q all') rest in
      ap₂ (λ (t : Token) (s : List Token). t ∷ s) a.0
      (same_spaced s q (All-tail (IsProper names) t s all) (All-tail (IsProper names) u q all') a.1)

  pub same_tokens : (s q : List Token) → All (IsProper names) s → All (IsProper names) q → spelling names s ≡ spelling names q
      → bare_tokens s ≡ bare_tokens q
  same_tokens [] [] all all' same = refl
  same_tokens [] (u ∷ q) all all' same =
      absurd (text_some names u (All-head (IsProper names) u q all').1 (nothing (token_text names u) (spaced names q) same))
  same_tokens (t ∷ s) [] all all' same =
      absurd (text_some names t (All-head (IsProper names) t s all).1 (nothing (token_text names t) (spaced names s) (sym same)))
  same_tokens (t ∷ s) (u ∷ q) all all' same =
      let a = cut t u s q (All-head (IsProper names) t s all) (All-head (IsProper names) u q all') same in
      ap₂ (λ (t : Token) (s : List Token). t ∷ s) a.0
      (same_spaced s q (All-tail (IsProper names) t s all) (All-tail (IsProper names) u q all') a.1)
