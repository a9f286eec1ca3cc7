-- Slots one behind the other, and the words of a state.
use Rattle.std.proofs.Common.{◌≡◌, ℕ, zero, suc, ◌+◌, ◌^◌, ◌<◌, ◌≤◌, List, [], ◌∷◌, ◌++◌, length, get_or, drop, replicate, map, refl, sym, ◌∙◌, ap, subst, arith, length-append}
use Rattle.std.proofs.lemmas.List.{take_at, drop_at, replicate-append-replicate}
use Rattle.std.proofs.lemmas.Nat.{pow_pos}
use Rattle.state_layout.specs.Words.{words_of}
use Rattle.state_layout.specs.Slots.{slot_size, first_word, first_words, number_of, words_for, state_in, state_words, state_widths, Fit, IsClean}
use Rattle.state_layout.proofs.Numbers.{value_back, words_for_length, zero_words}

-- ---- slots

pub words_push : (ws : List ℕ) (w : ℕ) → words_of (ws ++ w ∷ []) ≡ words_of ws + slot_size w
words_push [] w = omega arith
words_push (x ∷ ws) w = omega (arith, words_push ws w)

-- a slot stands within the words
pub slot_within : (ws : List ℕ) (k : ℕ) → k < length ws → first_word ws k + slot_size (get_or ws k 0) ≤ words_of ws
slot_within [] k h = absurd (omega (arith, h))
slot_within (w ∷ ws) zero h = omega arith
slot_within (w ∷ ws) (suc k) h = omega (arith, slot_within ws k (omega (arith, h)))

-- and before each slot behind it
pub slot_before : (ws : List ℕ) (j k : ℕ) → j < k → k < length ws → first_word ws j + slot_size (get_or ws j 0) ≤ first_word ws k
slot_before [] j k less h = absurd (omega (arith, h))
slot_before (w ∷ ws) j zero less h = absurd (omega (arith, less))
slot_before (w ∷ ws) zero (suc k) less h = omega arith
slot_before (w ∷ ws) (suc j) (suc k) less h = omega (arith, slot_before ws j k (omega (arith, less)) (omega (arith, h)))

pub firsts_at : (before : ℕ) (ws : List ℕ) (k : ℕ) → k < length ws → get_or (first_words before ws) k 0 ≡ before + first_word ws k
firsts_at before [] k h = absurd (omega (arith, h))
firsts_at before (w ∷ ws) zero h = omega arith
firsts_at before (w ∷ ws) (suc k) h = firsts_at (before + slot_size w) ws k (omega (arith, h)) ∙ omega arith

pub firsts_push : (before : ℕ) (ws : List ℕ) (w : ℕ) → first_words before (ws ++ w ∷ []) ≡ first_words before ws ++ (before + words_of ws) ∷ []
firsts_push before [] w = let same : before ≡ before + 0 = omega arith in ap (λ n. n ∷ []) same
firsts_push before (x ∷ ws) w =
    let same : before + slot_size x + words_of ws ≡ before + (slot_size x + words_of ws) = omega arith in
    ap (λ zs. before ∷ zs) (firsts_push (before + slot_size x) ws w ∙ ap (λ n. first_words (before + slot_size x) ws ++ n ∷ []) same)

-- ---- the state that words are

pub widths_back : (ws xs : List ℕ) → state_widths (state_in ws xs) ≡ ws
widths_back [] xs = refl
widths_back (w ∷ ws) xs = ap (λ vs. w ∷ vs) (widths_back ws (drop (slot_size w) xs))

pub state_words_length : (s : List (ℕ × ℕ)) → length (state_words s) ≡ words_of (state_widths s)
state_words_length [] = refl
state_words_length (r ∷ rs) = length-append (words_for (slot_size r.0) r.1) (state_words rs) ∙ omega (arith, words_for_length (slot_size r.0) r.1, state_words_length rs)

fit_rest : (r : ℕ × ℕ) (rs : List (ℕ × ℕ)) → Fit (r ∷ rs) → Fit rs
fit_rest r rs fit = λ k d h. fit (suc k) d (omega (arith, h))

-- the words of a state are that state
pub state_back : (s : List (ℕ × ℕ)) → Fit s → state_in (state_widths s) (state_words s) ≡ s
state_back [] fit = refl
state_back (r ∷ rs) fit =
    let n = slot_size r.0 in
    let own = words_for n r.1 in
    let long : length own ≡ n = words_for_length n r.1 in
    ap (λ xs. (r.0, number_of xs) ∷ state_in (state_widths rs) (drop n (own ++ state_words rs))) (take_at own (state_words rs) n long)
    ∙ ap (λ y. (r.0, y) ∷ state_in (state_widths rs) (drop n (own ++ state_words rs))) (value_back r.0 r.1 (fit zero r (omega arith)))
    ∙ ap (λ xs. r ∷ state_in (state_widths rs) xs) (drop_at own (state_words rs) n long)
    ∙ ap (λ zs. r ∷ zs) (state_back rs (fit_rest r rs fit))

-- words that are those of a state
pub state_is : (ws xs : List ℕ) (s : List (ℕ × ℕ)) → state_widths s ≡ ws → Fit s → xs ≡ state_words s → state_in ws xs ≡ s
state_is ws xs s widths fit is = ap (λ vs. state_in vs xs) (sym widths) ∙ ap (state_in (state_widths s)) is ∙ state_back s fit

pub state_clean : (ws xs : List ℕ) (s : List (ℕ × ℕ)) → state_widths s ≡ ws → Fit s → xs ≡ state_words s → IsClean ws xs
state_clean ws xs s widths fit is =
    let back : state_in ws xs ≡ s = state_is ws xs s widths fit is in
    (is ∙ ap state_words (sym back), subst Fit (sym back) fit)

-- ---- zeros

abbrev pub blank : List ℕ → List (ℕ × ℕ)
blank ws = map (λ w. (w, 0)) ws

pub blank_widths : (ws : List ℕ) → state_widths (blank ws) ≡ ws
blank_widths [] = refl
blank_widths (w ∷ ws) = ap (λ vs. w ∷ vs) (blank_widths ws)

pub blank_words : (ws : List ℕ) → replicate (words_of ws) 0 ≡ state_words (blank ws)
blank_words [] = refl
blank_words (w ∷ ws) =
    sym (replicate-append-replicate (slot_size w) (words_of ws) 0) ∙ ap (λ xs. replicate (slot_size w) 0 ++ xs) (blank_words ws)
    ∙ ap (λ xs. xs ++ state_words (blank ws)) (sym (zero_words (slot_size w)))

pub blank_fit : (ws : List ℕ) (k : ℕ) (d : ℕ × ℕ) → k < length (blank ws) → (get_or (blank ws) k d).1 < 2 ^ (get_or (blank ws) k d).0
blank_fit [] k d h = absurd (omega (arith, h))
blank_fit (w ∷ ws) zero d h = pow_pos w
blank_fit (w ∷ ws) (suc k) d h = blank_fit ws k d (omega (arith, h))
