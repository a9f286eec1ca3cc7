-- The nest of open uses, and the steps of an expansion.
use Rattle.std.proofs.Common.{◌≡◌, ℕ, zero, suc, ◌+◌, ◌-◌, ◌<◌, ◌≤◌, true, false, eqb, List, [], ◌∷◌, ◌++◌, length, get_or, take, set, drop, map, refl, sym, ap, subst, ◌∙◌, arith, true≢false, drop-cons, ◌⊎◌, inl, inr}
use Rattle.std.proofs.lemmas.Bool.{eq-eqb, ne_eqb, or_left, or_right, or_from, cases_lt}
use Rattle.std.proofs.lemmas.List.{length-set, length-append, get_or-set_same, get_or-set_other, get_or_append_left, get_or_push}
use Rattle.verilog_pre.specs.declared.part.Part.{Part}
use Rattle.verilog_pre.specs.declared.item.Item.{Item}
use Rattle.verilog_pre.specs.declared.item.Item.TheVariants as item
use Rattle.verilog_pre.specs.Expansions.{is_open, Placed}

pub open_here : (nest : List ℕ) (number place : ℕ) → place < length nest → get_or nest place 0 ≡ number → is_open nest number ≡ true
open_here [] number place within is = absurd (omega arith)
open_here (k ∷ ks) number zero within is = or_left (eqb k number) (is_open ks number) (eq-eqb k number is)
open_here (k ∷ ks) number (suc place) within is = or_right (eqb k number) (is_open ks number) (open_here ks number place (omega arith) is)

none_any : (nest : List ℕ) (number : ℕ) → ((i : ℕ) → i < length nest → get_or nest i 0 ≡ number → ⊥) → is_open nest number ≡ false
none_any [] number none = refl
none_any (k ∷ ks) number none =
    or_from (eqb k number) (is_open ks number) (ne_eqb k number (none 0 (omega arith))) (none_any ks number (λ i within is. none (suc i) (omega arith) is))

-- a number whose place doesn't have it is nowhere
pub not_open : (places nest : List ℕ) (number : ℕ) → Placed places nest
    → (get_or places number 0 < length nest → get_or nest (get_or places number 0) 0 ≡ number → ⊥) → is_open nest number ≡ false
not_open places nest number placed differs =
    none_any nest number (λ i within is.
    let at : get_or places number 0 ≡ i = ap (λ k. get_or places k 0) (sym is) ∙ placed.placed i within in
    differs (omega (arith, at)) (ap (λ k. get_or nest k 0) at ∙ is))

-- one more use, whose number isn't open
pub placed_more : (places nest : List ℕ) (number : ℕ) → Placed places nest → number < length places → is_open nest number ≡ false
    → Placed (set places number (length nest)) (nest ++ number ∷ [])
placed_more places nest number placed within shut = record {
  listed = λ i bound. listed i (cases_lt i (length nest)) (omega (arith, bound, length-append nest (number ∷ [])));
  placed = λ i bound. at i (cases_lt i (length nest)) (omega (arith, bound, length-append nest (number ∷ [])));
}
  where
    listed : (i : ℕ) → (i < length nest) ⊎ (length nest ≤ i) → i < length nest + 1 → get_or (nest ++ number ∷ []) i 0 < length (set places number (length nest))
    listed i (inl below) bound = omega (arith, placed.listed i below, get_or_append_left nest (number ∷ []) 0 i below, length-set places number (length nest))
    listed i (inr above) bound = omega (arith, within, get_or_push nest number 0 i (let same : length nest ≡ i = omega arith in same), length-set places number (length nest))

    differs : (i : ℕ) → i < length nest → get_or nest i 0 ≡ number → ⊥
    differs i below is = true≢false (sym (open_here nest number i below is) ∙ shut)

    at : (i : ℕ) → (i < length nest) ⊎ (length nest ≤ i) → i < length nest + 1 → get_or (set places number (length nest)) (get_or (nest ++ number ∷ []) i 0) 0 ≡ i
    at i (inl below) bound =
        ap (λ k. get_or (set places number (length nest)) k 0) (get_or_append_left nest (number ∷ []) 0 i below)
        ∙ get_or-set_other places number (get_or nest i 0) (length nest) 0 (differs i below)
        ∙ placed.placed i below
    at i (inr above) bound =
        let same : length nest ≡ i = omega arith in
        ap (λ k. get_or (set places number (length nest)) k 0) (get_or_push nest number 0 i same)
        ∙ get_or-set_same places number (length nest) 0 within ∙ same

-- the parts of a body from one on are that one and those behind it
pub parts_from_one : (parts : List Part) (last n : ℕ) (d : Part) → 0 < n → n ≤ last → last ≤ length parts
    → take (last - (n - 1)) (drop (n - 1) parts) ≡ get_or parts (n - 1) d ∷ take (last - n) (drop n parts)
parts_from_one parts last zero d some within bound = absurd (omega arith)
parts_from_one parts last (suc k) d some within bound =
    let one : suc k - 1 ≡ k = omega arith in
    let left : last - k ≡ suc (last - suc k) = omega arith in
    ap (λ j. take (last - j) (drop j parts)) one
    ∙ ap (take (last - k)) (drop-cons parts k d (omega arith))
    ∙ ap (λ m. take m (get_or parts k d ∷ drop (suc k) parts)) left
    ∙ ap (λ j. get_or parts j d ∷ take (last - suc k) (drop (suc k) parts)) (sym one)

pub pushed_one : (parts : List Part) (last n : ℕ) (d : Part) (before now rest : List Item) → 0 < n → n ≤ last → last ≤ length parts
    → now ≡ item.Part (get_or parts (n - 1) d) ∷ before → before ≡ map item.Part (take (last - n) (drop n parts)) ++ rest
    → now ≡ map item.Part (take (last - (n - 1)) (drop (n - 1) parts)) ++ rest
pushed_one parts last n d before now rest some within bound is so_far =
    is ∙ ap (λ w. item.Part (get_or parts (n - 1) d) ∷ w) so_far
    ∙ ap (λ ps. map item.Part ps ++ rest) (sym (parts_from_one parts last n d some within bound))

-- where all parts of the body are pushed
pub pushed_all : (parts : List Part) (first last n : ℕ) (now rest : List Item) → n ≤ first → (first ≤ n) ⊎ (n ≡ last)
    → now ≡ map item.Part (take (last - n) (drop n parts)) ++ rest → now ≡ map item.Part (take (last - first) (drop first parts)) ++ rest
pushed_all parts first last n now rest past (inl low) is =
    let same : n ≡ first = omega arith in is ∙ ap (λ k. map item.Part (take (last - k) (drop k parts)) ++ rest) same
pushed_all parts first last n now rest past (inr same) is =
    let none : last - n ≡ 0 = omega arith in
    let empty : last - first ≡ 0 = omega arith in
    is ∙ ap (λ k. map item.Part (take k (drop n parts)) ++ rest) none ∙ ap (λ k. map item.Part (take k (drop first parts)) ++ rest) (sym empty)

pub placed_push : (old new nest nest_new : List ℕ) (number len : ℕ) → Placed old nest → new ≡ old → number < length old → is_open nest number ≡ false
    → len ≡ length nest → nest_new ≡ nest ++ number ∷ [] → Placed (set new number len) nest_new
placed_push old new nest nest_new number len placed same within shut count is =
    let Places : List ℕ → Type 0 = λ ps. Placed ps (nest ++ number ∷ []) in
    let Nest : List ℕ → Type 0 = λ ns. Placed (set new number len) ns in
    let places : set old number (length nest) ≡ set new number len = ap (λ n. set old number n) (sym count) ∙ ap (λ ps. set ps number len) (sym same) in
    subst Nest (sym is) (subst Places places (placed_more old nest number placed within shut))
