-- What the calls on a state say of its view.
use Rattle.std.proofs.Common.{◌≡◌, ℕ, zero, suc, ◌+◌, ◌^◌, ◌<◌, List, [], ◌∷◌, ◌++◌, length, get_or, set, take, drop, replicate, map, refl, sym, ◌∙◌, ap, subst, arith}
use Rattle.std.proofs.lemmas.List.{take_more_set, map_more}
use Rattle.std.specs.Prelude.{slice_get, Some, OnOk, OnErr}
use Rattle.std.specs.declared.result.Result.{Result}
use Rattle.std.specs.declared.result.Result.TheVariants.{Ok, Err}
use Rattle.bits.specs.declared.Bits.{Bits}
use Rattle.typed_ir.specs.States.{sized_value}
use Rattle.state_layout.specs.Words.{words_of}
use Rattle.state_layout.specs.Slots.{slot_size, first_word, number_of, words_for, state_in, state_words, state_widths, Fit, IsClean}
use Rattle.state_layout.proofs.Registers.{register_is, register_fits}
use Rattle.state_layout.proofs.SlotWords.{widths_back, state_words_length, state_is, state_clean, blank, blank_words}
use Rattle.state_layout.proofs.Splices.{written_words, written_widths, written_fit}

pub state_length : (ws xs : List ℕ) → length (state_in ws xs) ≡ length ws
state_length [] xs = refl
state_length (w ∷ ws) xs = ap suc (state_length ws (drop (slot_size w) xs))

pub width_at : (s : List (ℕ × ℕ)) (k : ℕ) → get_or (state_widths s) k 0 ≡ (get_or s k (0, 0)).0
width_at [] k = refl
width_at (r ∷ s) zero = refl
width_at (r ∷ s) (suc k) = width_at s k

pub pages_length : (ws xs : List ℕ) → IsClean ws xs → length xs ≡ words_of ws
pages_length ws xs clean = ap length clean.0 ∙ state_words_length (state_in ws xs) ∙ ap words_of (widths_back ws xs)

pub either_way : {T E P Q R : Type 0} (r : Result T E) → OnOk r P → OnErr r Q → (P → R) → (Q → R) → R
either_way (Ok x) p q f g = f p
either_way (Err e) p q f g = g q

-- ---- a register read: `us` are the widths of its layout, as the call that gave its slot has them

module _ (ws us xs : List ℕ) (view : List (ℕ × ℕ)) (k first width : ℕ)
    (same : us ≡ ws) (is : state_in ws xs ≡ view) (at : first ≡ first_word us k) (wide : width ≡ get_or us k 0) (there : k < length view) where
  pub listed : k < length ws
  listed = omega (arith, there, ap length is, state_length ws xs)

  width_is : width ≡ get_or ws k 0
  width_is = wide ∙ ap (λ vs. get_or vs k 0) same

  first_is : first ≡ first_word ws k
  first_is = at ∙ ap (λ vs. first_word vs k) same

  number_is : number_of (take (slot_size width) (drop first xs)) ≡ number_of (take (slot_size (get_or ws k 0)) (drop (first_word ws k) xs))
  number_is = ap (λ n. number_of (take (slot_size n) (drop first xs))) width_is ∙ ap (λ n. number_of (take (slot_size (get_or ws k 0)) (drop n xs))) first_is

  pub read_fits : (value : ℕ) → value ≡ number_of (take (slot_size width) (drop first xs)) → IsClean ws xs → value < 2 ^ width
  read_fits value read clean =
      subst (λ n. value < 2 ^ n) (sym width_is) (subst (λ n. n < 2 ^ get_or ws k 0) (sym (read ∙ number_is)) (register_fits ws xs k listed clean.1))

  pub read_is : (value : ℕ) → value ≡ number_of (take (slot_size width) (drop first xs)) → slice_get view k ≡ Some (width, value)
  read_is value read =
      ap (λ s. slice_get s k) (sym is) ∙ register_is ws xs k listed ∙ ap (λ n. Some (n, number_of (take (slot_size (get_or ws k 0)) (drop (first_word ws k) xs)))) (sym width_is)
      ∙ ap (λ y. Some (width, y)) (sym (read ∙ number_is))

  -- ---- a register written

  pub width_same : (v : ℕ) → get_or (state_widths view) k 0 ≡ v → width ≡ v
  width_same v want = width_is ∙ ap (λ vs. get_or vs k 0) (sym (widths_back ws xs)) ∙ ap (λ s. get_or (state_widths s) k 0) is ∙ want

  view_widths : state_widths view ≡ ws
  view_widths = ap state_widths (sym is) ∙ widths_back ws xs

  module _ (new : List ℕ) (v y : ℕ) (want : get_or (state_widths view) k 0 ≡ v) (below : y < 2 ^ v) (clean : IsClean ws xs)
      (put : new ≡ take first xs ++ words_for (slot_size width) y ++ drop (first + slot_size width) xs) where
    own_width : (get_or view k (0, 0)).0 ≡ v
    own_width = sym (width_at view k) ∙ want

    new_words : new ≡ state_words (set view k (v, y))
    new_words =
        let words : xs ≡ state_words view = clean.0 ∙ ap state_words is in
        let place : first ≡ first_word (state_widths view) k = first_is ∙ ap (λ vs. first_word vs k) (sym view_widths) in
        put ∙ ap (λ n. take first xs ++ words_for (slot_size n) y ++ drop (first + slot_size n) xs) (width_same v want)
        ∙ ap (λ n. take n xs ++ words_for (slot_size v) y ++ drop (n + slot_size v) xs) place
        ∙ ap (λ ys. take (first_word (state_widths view) k) ys ++ words_for (slot_size v) y ++ drop (first_word (state_widths view) k + slot_size v) ys) words
        ∙ sym (written_words view k v y (0, 0) there own_width)

    new_widths : state_widths (set view k (v, y)) ≡ ws
    new_widths = written_widths view k v y (0, 0) own_width ∙ view_widths

    pub write_is : state_in ws new ≡ set view k (v, y)
    write_is = state_is ws new (set view k (v, y)) new_widths (written_fit view k v y below (subst Fit is clean.1)) new_words

    pub write_clean : IsClean ws new
    write_clean = state_clean ws new (set view k (v, y)) new_widths (written_fit view k v y below (subst Fit is clean.1)) new_words

-- ---- zeros

pub zeros_are : (ws us xs : List ℕ) (n : ℕ) → xs ≡ replicate n 0 → n ≡ words_of us → us ≡ ws → xs ≡ state_words (blank ws)
zeros_are ws us xs n zeros many same = zeros ∙ ap (λ k. replicate k 0) (many ∙ ap words_of same) ∙ blank_words ws

-- ---- filled register by register

pub more_filled : (s new : List (ℕ × ℕ)) (vs : List Bits) (p : ℕ) (b d : Bits) → p < length s → p < length vs → new ≡ set s p (b.width, b.value) → b ≡ get_or vs p d
    → take p s ≡ map sized_value (take p vs) → take (p + 1) new ≡ map sized_value (take (p + 1) vs)
more_filled s new vs p b d there listed put is before =
    ap (take (p + 1)) put ∙ take_more_set s p (b.width, b.value) there ∙ ap (λ zs. zs ++ (b.width, b.value) ∷ []) before
    ∙ ap (λ (x : Bits). map sized_value (take p vs) ++ sized_value x ∷ []) is ∙ sym (map_more sized_value vs p d listed)
