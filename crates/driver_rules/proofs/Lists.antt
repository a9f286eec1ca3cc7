-- Flags and lists by their places.
use Rattle.std.proofs.Common.{◌≡◌, ◌<◌, ◌≤◌, ◌+◌, ◌==◌, ◌&&◌, ◌||◌, ℕ, zero, suc, Bool, true, false, cond, List, [], ◌∷◌, ◌++◌, map, length, drop, get_or, refl, sym, ◌∙◌, ap, arith, append_assoc}
use Rattle.std.proofs.Math.Bool.{or-false}
use Rattle.std.proofs.lemmas.Bool.{ne_eqb}
use Rattle.typed_ir.specs.Orders.{Each, at_or}
use Rattle.typed_ir.proofs.Cases.{same_suc}
use Rattle.typed_ir.proofs.Lists.{drop_read}
use Rattle.block_rules.specs.Paths.{true_from}

-- one more flag before others, and the numbers of those so far
pub flag_next : (flag : Bool) (old : List ℕ) (k n : ℕ) (rest : List Bool) → suc k ≡ n
    → cond flag (old ++ k ∷ []) old ++ true_from n rest ≡ old ++ true_from k (flag ∷ rest)
flag_next true old k n rest e = append_assoc old (k ∷ []) (true_from n rest) ∙ ap (λ m. old ++ k ∷ true_from m rest) (sym e)
flag_next false old k n rest e = ap (λ m. old ++ true_from m rest) (sym e)

-- the same of an element of a list
pub place_next : {A : Type 0} (f : A → Bool) (xs : List A) (k : ℕ) (x : A) (flag : Bool) (old new : List ℕ) → k < length xs → x ≡ get_or xs k x
    → flag ≡ f x → new ≡ cond flag (old ++ k ∷ []) old
    → new ++ true_from (k + 1) (map f (drop (k + 1) xs)) ≡ old ++ true_from k (map f (drop k xs))
place_next f xs k x flag old new h is same more =
    let rest = map f (drop (k + 1) xs) in
    let next : suc k ≡ k + 1 = omega arith in
    ap (λ ns. ns ++ true_from (k + 1) rest) more
    ∙ flag_next flag old k (k + 1) rest next
    ∙ ap (λ b. old ++ true_from k (b ∷ rest)) same
    ∙ ap (λ zs. old ++ true_from k (map f zs)) (sym (drop_read xs k x h is))

-- no flag is true
pub all_false : (k : ℕ) (flags : List Bool) → true_from k flags ≡ [] → Each (λ (b : Bool). b ≡ false) flags
all_false k [] h = tt
all_false k (true ∷ flags) h = absurd (let long : length (k ∷ true_from (suc k) flags) ≡ 0 = ap length h in omega (arith, long))
all_false k (false ∷ flags) h = (refl, all_false (suc k) flags h)

pub each_mapped : {A : Type 0} (f : A → Bool) (xs : List A) → Each (λ (b : Bool). b ≡ false) (map f xs) → Each (λ (x : A). f x ≡ false) xs
each_mapped f [] h = tt
each_mapped f (x ∷ xs) h = (h.0, each_mapped f xs h.1)

-- ---- elements by their number

pub at_or_get : {A B : Type 0} (f : A → B) (d : B) (xs : List A) (k : ℕ) (y : A) → k < length xs → at_or f d xs k ≡ f (get_or xs k y)
at_or_get f d [] k y h = absurd (omega (arith, h))
at_or_get f d (x ∷ xs) zero y h = refl
at_or_get f d (x ∷ xs) (suc k) y h = at_or_get f d xs k y (omega (arith, h))

pub at_or_past : {A B : Type 0} (f : A → B) (d : B) (xs : List A) (k : ℕ) → length xs ≤ k → at_or f d xs k ≡ d
at_or_past f d [] k h = refl
at_or_past f d (x ∷ xs) zero h = absurd (omega (arith, h))
at_or_past f d (x ∷ xs) (suc k) h = at_or_past f d xs k (omega (arith, h))

pub at_or_mapped : {A B C : Type 0} (f : B → C) (g : A → B) (d : C) (xs : List A) (k : ℕ) → at_or f d (map g xs) k ≡ at_or (λ x. f (g x)) d xs k
at_or_mapped f g d [] k = refl
at_or_mapped f g d (x ∷ xs) zero = refl
at_or_mapped f g d (x ∷ xs) (suc k) = at_or_mapped f g d xs k

-- one more behind a list
pub at_or_more : {A : Type 0} (f : A → Bool) (xs : List A) (x : A) (k : ℕ) → at_or f false (xs ++ x ∷ []) k ≡ (at_or f false xs k || ((k == length xs) && f x))
at_or_more f [] x zero = refl
at_or_more f [] x (suc k) = sym (ap (λ b. b && f x) (ne_eqb (suc k) 0 (λ e. omega (arith, e))))
at_or_more f (y ∷ xs) x zero = sym (ap (λ b. f y || (b && f x)) (ne_eqb 0 (suc (length xs)) (λ e. omega (arith, e))) ∙ or-false (f y))
at_or_more f (y ∷ xs) x (suc k) =
    at_or_more f xs x k ∙ ap (λ b. at_or f false xs k || (b && f x)) (sym (same_suc k (length xs)))
