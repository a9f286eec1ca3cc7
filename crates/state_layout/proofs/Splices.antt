-- A list with a part of it replaced, and a state with a register written.
use Rattle.std.proofs.Common.{◌≡◌, ℕ, zero, suc, ◌+◌, ◌-◌, ◌/◌, ◌%◌, ◌^◌, ◌<◌, ◌≤◌, List, [], ◌∷◌, ◌++◌, length, get_or, set, take, drop, refl, sym, ◌∙◌, ap, arith}
use Rattle.std.proofs.lemmas.List.{append_assoc, set_split, drop_at, drop-drop}
use Rattle.state_layout.specs.Slots.{slot_size, first_word, words_for, state_words, state_widths, Fit}
use Rattle.state_layout.proofs.Numbers.{words_for_length, one_word, two_words, one_is, two_are}

-- two elements set, one behind the other
pub set_two : (xs : List ℕ) (f a b : ℕ) → f + 1 < length xs → set (set xs f a) (f + 1) b ≡ take f xs ++ a ∷ b ∷ drop (f + 2) xs
set_two [] f a b h = absurd (omega (arith, h))
set_two (x ∷ []) f a b h = absurd (omega (arith, h))
set_two (x ∷ y ∷ xs) zero a b h = refl
set_two (x ∷ y ∷ xs) (suc f) a b h =
    let one : suc f + 1 ≡ suc (f + 1) = omega arith in
    let two : suc (f + 2) ≡ suc f + 2 = omega arith in
    ap (λ n. set (x ∷ set (y ∷ xs) f a) n b) one ∙ ap (λ zs. x ∷ zs) (set_two (y ∷ xs) f a b (omega (arith, h)))
    ∙ ap (λ n. x ∷ (take f (y ∷ xs) ++ a ∷ b ∷ drop n (x ∷ y ∷ xs))) two

pub set_one : (xs : List ℕ) (f a : ℕ) → f < length xs → set xs f a ≡ take f xs ++ a ∷ drop (f + 1) xs
set_one xs f a h = let one : suc f ≡ f + 1 = omega arith in set_split xs f a h ∙ ap (λ n. take f xs ++ a ∷ drop n xs) one

front : (xs ys : List ℕ) (n m : ℕ) → length xs ≡ n → take (n + m) (xs ++ ys) ≡ xs ++ take m ys
front [] ys n m is = let same : n + m ≡ m = omega (arith, is) in ap (λ k. take k ys) same
front (x ∷ xs) ys n m is =
    let one : n + m ≡ suc (n - 1 + m) = omega (arith, is) in
    ap (λ k. take k (x ∷ (xs ++ ys))) one ∙ ap (λ zs. x ∷ zs) (front xs ys (n - 1) m (omega (arith, is)))

rest : (xs ys : List ℕ) (n m : ℕ) → length xs ≡ n → drop (n + m) (xs ++ ys) ≡ drop m ys
rest xs ys n m is = sym (drop-drop m n (xs ++ ys)) ∙ ap (drop m) (drop_at xs ys n is)

-- the words of a state in which register k is written
pub written_words : (s : List (ℕ × ℕ)) (k w y : ℕ) (d : ℕ × ℕ) → k < length s → (get_or s k d).0 ≡ w
    → state_words (set s k (w, y)) ≡ take (first_word (state_widths s) k) (state_words s) ++ words_for (slot_size w) y ++ drop (first_word (state_widths s) k + slot_size w) (state_words s)
written_words [] k w y d h is = absurd (omega (arith, h))
written_words (r ∷ rs) zero w y d h is =
    let none : slot_size w ≡ 0 + slot_size w = omega arith in
    let long : length (words_for (slot_size r.0) r.1) ≡ slot_size w = words_for_length (slot_size r.0) r.1 ∙ ap slot_size is in
    ap (λ zs. words_for (slot_size w) y ++ zs) (sym (drop_at (words_for (slot_size r.0) r.1) (state_words rs) (slot_size w) long))
    ∙ ap (λ n. words_for (slot_size w) y ++ drop n (words_for (slot_size r.0) r.1 ++ state_words rs)) none
written_words (r ∷ rs) (suc k) w y d h is =
    let n = slot_size r.0 in
    let own = words_for n r.1 in
    let m = first_word (state_widths rs) k in
    let long : length own ≡ n = words_for_length n r.1 in
    let sum : n + (m + slot_size w) ≡ n + m + slot_size w = omega arith in
    ap (λ zs. own ++ zs) (written_words rs k w y d (omega (arith, h)) is)
    ∙ ap (λ zs. own ++ zs) (append_assoc (take m (state_words rs)) (words_for (slot_size w) y) (drop (m + slot_size w) (state_words rs)))
    ∙ sym (append_assoc own (take m (state_words rs)) (words_for (slot_size w) y ++ drop (m + slot_size w) (state_words rs)))
    ∙ ap (λ zs. zs ++ (words_for (slot_size w) y ++ drop (m + slot_size w) (state_words rs))) (sym (front own (state_words rs) n m long))
    ∙ ap (λ zs. take (n + m) (own ++ state_words rs) ++ (words_for (slot_size w) y ++ zs)) (sym (rest own (state_words rs) n (m + slot_size w) long))
    ∙ ap (λ j. take (n + m) (own ++ state_words rs) ++ (words_for (slot_size w) y ++ drop j (own ++ state_words rs))) sum
    ∙ sym (append_assoc (take (n + m) (own ++ state_words rs)) (words_for (slot_size w) y) (drop (n + m + slot_size w) (own ++ state_words rs)))

pub written_widths : (s : List (ℕ × ℕ)) (k w y : ℕ) (d : ℕ × ℕ) → (get_or s k d).0 ≡ w → state_widths (set s k (w, y)) ≡ state_widths s
written_widths [] k w y d is = refl
written_widths (r ∷ rs) zero w y d is = ap (λ v. v ∷ state_widths rs) (sym is)
written_widths (r ∷ rs) (suc k) w y d is = ap (λ vs. r.0 ∷ vs) (written_widths rs k w y d is)

pub written_fit : (s : List (ℕ × ℕ)) (j w y : ℕ) → y < 2 ^ w → Fit s → (k : ℕ) (d : ℕ × ℕ) → k < length (set s j (w, y)) → (get_or (set s j (w, y)) k d).1 < 2 ^ (get_or (set s j (w, y)) k d).0
written_fit [] j w y below fit k d h = absurd (omega (arith, h))
written_fit (r ∷ rs) zero w y below fit zero d h = below
written_fit (r ∷ rs) zero w y below fit (suc k) d h = fit (suc k) d h
written_fit (r ∷ rs) (suc j) w y below fit zero d h = fit zero d (omega arith)
written_fit (r ∷ rs) (suc j) w y below fit (suc k) d h = written_fit rs j w y below (λ n e l. fit (suc n) e (omega (arith, l))) k d (omega (arith, h))

-- the words with a value put into its slot, by one write and by two
pub put_one_is : (xs : List ℕ) (f w y : ℕ) → 1 ≤ w → w ≤ 64 → y < 2 ^ w → f + slot_size w ≤ length xs
    → set xs f y ≡ take f xs ++ words_for (slot_size w) y ++ drop (f + slot_size w) xs
put_one_is xs f w y some few below within =
    let size : slot_size w ≡ 1 = one_word w some few in
    set_one xs f y (omega (arith, within, size)) ∙ sym (append_assoc (take f xs) (y ∷ []) (drop (f + 1) xs))
    ∙ ap (λ zs. take f xs ++ zs ++ drop (f + 1) xs) (sym (one_is w y some few below)) ∙ ap (λ n. take f xs ++ words_for (slot_size w) y ++ drop (f + n) xs) (sym size)

pub put_two_is : (xs : List ℕ) (f w y : ℕ) → 64 < w → w ≤ 128 → y < 2 ^ w → f + slot_size w ≤ length xs
    → set (set xs f (y % 2 ^ 64)) (f + 1) (y / 2 ^ 64) ≡ take f xs ++ words_for (slot_size w) y ++ drop (f + slot_size w) xs
put_two_is xs f w y many few below within =
    let size : slot_size w ≡ 2 = two_words w many few in
    set_two xs f (y % 2 ^ 64) (y / 2 ^ 64) (omega (arith, within, size)) ∙ sym (append_assoc (take f xs) (y % 2 ^ 64 ∷ y / 2 ^ 64 ∷ []) (drop (f + 2) xs))
    ∙ ap (λ zs. take f xs ++ zs ++ drop (f + 2) xs) (sym (two_are w y many few below)) ∙ ap (λ n. take f xs ++ words_for (slot_size w) y ++ drop (f + n) xs) (sym size)
