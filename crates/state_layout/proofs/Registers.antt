-- A register of the state that words are.
use Rattle.std.proofs.Common.{◌≡◌, ℕ, zero, suc, ◌+◌, ◌*◌, ◌^◌, ◌<◌, List, [], ◌∷◌, length, get_or, take, drop, refl, sym, ◌∙◌, ap, subst, arith}
use Rattle.std.proofs.lemmas.List.{drop-drop, drop_more}
use Rattle.std.specs.Prelude.{slice_get, Some}
use Rattle.state_layout.specs.Slots.{slot_size, first_word, number_of, state_in, Fit}

pub register_is : (ws xs : List ℕ) (k : ℕ) → k < length ws
    → slice_get (state_in ws xs) k ≡ Some (get_or ws k 0, number_of (take (slot_size (get_or ws k 0)) (drop (first_word ws k) xs)))
register_is [] xs k h = absurd (omega (arith, h))
register_is (w ∷ ws) xs zero h = refl
register_is (w ∷ ws) xs (suc k) h =
    register_is ws (drop (slot_size w) xs) k (omega (arith, h))
    ∙ ap (λ ys. Some (get_or ws k 0, number_of (take (slot_size (get_or ws k 0)) ys))) (drop-drop (first_word ws k) (slot_size w) xs)

pub register_fits : (ws xs : List ℕ) (k : ℕ) → k < length ws → Fit (state_in ws xs)
    → number_of (take (slot_size (get_or ws k 0)) (drop (first_word ws k) xs)) < 2 ^ get_or ws k 0
register_fits [] xs k h fit = absurd (omega (arith, h))
register_fits (w ∷ ws) xs zero h fit = fit zero (0, 0) (omega arith)
register_fits (w ∷ ws) xs (suc k) h fit =
    subst (λ ys. number_of (take (slot_size (get_or ws k 0)) ys) < 2 ^ get_or ws k 0) (drop-drop (first_word ws k) (slot_size w) xs)
    (register_fits ws (drop (slot_size w) xs) k (omega (arith, h)) (λ n d l. fit (suc n) d (omega (arith, l))))

-- a slot of one word
pub one_read : (xs : List ℕ) (f low : ℕ) → f < length xs → low ≡ get_or xs f 0 → low ≡ number_of (take 1 (drop f xs))
one_read xs f low h is =
    let none : low ≡ low + 0 = omega arith in
    none ∙ ap (λ x. x + 0) is ∙ sym (ap (λ ys. number_of (take 1 ys)) (drop_more xs f 0 h))

-- and of two
pub two_read : (xs : List ℕ) (f low high : ℕ) → f + 1 < length xs → low ≡ get_or xs f 0 → high ≡ get_or xs (f + 1) 0 → low + 2 ^ 64 * high ≡ number_of (take 2 (drop f xs))
two_read xs f low high h is next =
    let none : low + 2 ^ 64 * high ≡ low + 2 ^ 64 * (high + 0) = omega arith in
    none ∙ ap (λ x. x + 2 ^ 64 * (high + 0)) is ∙ ap (λ y. get_or xs f 0 + 2 ^ 64 * (y + 0)) next
    ∙ sym (ap (λ ys. get_or xs f 0 + 2 ^ 64 * number_of (take 1 ys)) (drop_more xs (f + 1) 0 h))
    ∙ sym (ap (λ ys. number_of (take 2 ys)) (drop_more xs f 0 (omega (arith, h))))
