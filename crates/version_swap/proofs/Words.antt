-- Words of a line, read one by one: a line is its words in a row, with what follows it.
use Rattle.std.proofs.Common.{◌≡◌, ℕ, ◌≤◌, ◌<◌, ◌^◌, Bool, true, false, List, ◌∷◌, ◌++◌, codes, decimal, refl, ap, ◌∙◌, append_assoc, arith}
use Rattle.std.proofs.lemmas.Fmt.{decimal_injective}
use Rattle.ls_text.proofs.Lists.{first_of, rest_of}
use Rattle.module_registry.specs.KeyTexts.{line_end, shape_text}
use Rattle.version_swap.proofs.Cuts.{cut, IsCut}
use Rattle.version_swap.proofs.Lacking.{decimal_lacks}

-- `s` or `u`
abbrev pub sign : Bool → ℕ
sign true = 115
sign false = 117

-- the two words of a shape, and what follows them
abbrev pub shaped : ℕ → Bool → List ℕ → List ℕ
shaped width signed xs = decimal width ++ 32 ∷ sign signed ∷ xs

-- ---- lines as words in a row

shape_row : (width : ℕ) (signed : Bool) (xs : List ℕ) → shape_text width signed ++ xs ≡ 32 ∷ shaped width signed xs
shape_row width true xs = ap (λ z. 32 ∷ z) (append_assoc (decimal width) (codes " s") xs)
shape_row width false xs = ap (λ z. 32 ∷ z) (append_assoc (decimal width) (codes " u") xs)

pub port_row : (kind name : List ℕ) (width : ℕ) (signed : Bool) (xs : List ℕ)
    → kind ++ name ++ shape_text width signed ++ line_end ++ xs ≡ kind ++ (name ++ 32 ∷ shaped width signed (10 ∷ xs))
port_row kind name width signed xs =
    append_assoc (kind ++ name ++ shape_text width signed) line_end xs
    ∙ append_assoc (kind ++ name) (shape_text width signed) (10 ∷ xs)
    ∙ append_assoc kind name (shape_text width signed ++ (10 ∷ xs))
    ∙ ap (λ z. kind ++ (name ++ z)) (shape_row width signed (10 ∷ xs))

pub parameter_row : (kind name value : List ℕ) (width : ℕ) (signed : Bool) (xs : List ℕ)
    → kind ++ name ++ shape_text width signed ++ codes " " ++ value ++ line_end ++ xs
    ≡ kind ++ (name ++ 32 ∷ shaped width signed (32 ∷ (value ++ 10 ∷ xs)))
parameter_row kind name value width signed xs =
    append_assoc (kind ++ name ++ shape_text width signed ++ codes " " ++ value) line_end xs
    ∙ append_assoc (kind ++ name ++ shape_text width signed ++ codes " ") value (10 ∷ xs)
    ∙ append_assoc (kind ++ name ++ shape_text width signed) (codes " ") (value ++ (10 ∷ xs))
    ∙ append_assoc (kind ++ name) (shape_text width signed) (32 ∷ (value ++ (10 ∷ xs)))
    ∙ append_assoc kind name (shape_text width signed ++ (32 ∷ (value ++ (10 ∷ xs))))
    ∙ ap (λ z. kind ++ (name ++ z)) (shape_row width signed (32 ∷ (value ++ (10 ∷ xs))))

-- ---- and back

pub record IsShape (v w : ℕ) (s u : Bool) (xs ys : List ℕ) : Type 0 where
  pub width : v ≡ w
  pub signed : s ≡ u
  pub after : xs ≡ ys

sign_tells : (s u : Bool) → sign s ≡ sign u → s ≡ u
sign_tells true true e = refl
sign_tells true false e = absurd (omega (arith, e))
sign_tells false true e = absurd (omega (arith, e))
sign_tells false false e = refl

pub shape_read : (v w : ℕ) (s u : Bool) (xs ys : List ℕ) → v ≤ 128 → w ≤ 128 → shaped v s xs ≡ shaped w u ys → IsShape v w s u xs ys
shape_read v w s u xs ys few_v few_w e =
    let small_v : v < 2 ^ 64 = omega (arith, few_v) in
    let small_w : w < 2 ^ 64 = omega (arith, few_w) in
    let width : IsCut (decimal v) (decimal w) (sign s ∷ xs) (sign u ∷ ys) =
    cut 32 (decimal v) (decimal w) (sign s ∷ xs) (sign u ∷ ys)
    (decimal_lacks 32 v (omega arith) small_v) (decimal_lacks 32 w (omega arith) small_w) e in
    record { width = decimal_injective v w small_v small_w width.before; signed = sign_tells s u (ap first_of width.after); after = ap rest_of width.after }
