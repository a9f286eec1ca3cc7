-- Rows that are the same.
use Rattle.std.proofs.Common.{◌≡◌, ℕ, zero, suc, ◌+◌, ◌<◌, false, ◌&&◌, ◌==◌, List, [], ◌∷◌, length, drop, get_or, refl, sym, ◌∙◌, ap, ap₂, arith}
use Rattle.std.proofs.Math.Bool.{and-false}
use Rattle.stimulus.specs.declared.setting.Setting.{Setting}
use Rattle.stimulus.specs.Rows.{are_same}
use Rattle.stimulus.specs.Settings.{pairs_of}

-- ---- setting by setting

pub unlike_lengths : (xs ys : List Setting) → (length xs ≡ length ys → ⊥) → false ≡ are_same (pairs_of xs) (pairs_of ys)
unlike_lengths [] [] h = absurd (h refl)
unlike_lengths [] (y ∷ ys) h = refl
unlike_lengths (x ∷ xs) [] h = refl
unlike_lengths (x ∷ xs) (y ∷ ys) h =
    sym (ap (λ t. ((x.name.0 == y.name.0) && (x.value == y.value)) && t) (sym (unlike_lengths xs ys (λ e. h (ap suc e)))) ∙ and-false ((x.name.0 == y.name.0) && (x.value == y.value)))

pub same_step : (xs ys : List Setting) (i : ℕ) (x y : Setting) → i < length xs → i < length ys → x ≡ get_or xs i x → y ≡ get_or ys i y
    → are_same (pairs_of (drop i xs)) (pairs_of (drop i ys))
    ≡ (((x.name.0 == y.name.0) && (x.value == y.value)) && are_same (pairs_of (drop (i + 1) xs)) (pairs_of (drop (i + 1) ys)))
same_step [] ys i x y lt le is its = absurd (omega (arith, lt))
same_step (p ∷ ps) [] i x y lt le is its = absurd (omega (arith, le))
same_step (p ∷ ps) (q ∷ qs) zero x y lt le is its =
    ap₂ (λ (a b : Setting). ((a.name.0 == b.name.0) && (a.value == b.value)) && are_same (pairs_of ps) (pairs_of qs)) (sym is) (sym its)
same_step (p ∷ ps) (q ∷ qs) (suc i) x y lt le is its =
    let more : suc (i + 1) ≡ suc i + 1 = omega arith in
    same_step ps qs i x y (omega (arith, lt)) (omega (arith, le)) is its
    ∙ ap (λ k. ((x.name.0 == y.name.0) && (x.value == y.value)) && are_same (pairs_of (drop k (p ∷ ps))) (pairs_of (drop k (q ∷ qs)))) more
