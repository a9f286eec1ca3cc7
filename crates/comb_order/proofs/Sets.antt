-- Sets of the numbers of a list.
use Rattle.std.proofs.Common.{◌≡◌, ℕ, zero, suc, ◌+◌, ◌<◌, Bool, true, false, not, ◌&&◌, ◌||◌, ◌==◌, cond, List, [], ◌∷◌, length, get_or, drop, refl, sym, ◌∙◌, ap, ap₂}
use Rattle.std.proofs.lemmas.Bool.{and_right}
use Rattle.typed_ir.proofs.Cases.{turned, cond_or}
use Rattle.typed_ir.proofs.Lists.{drop_split}
use Rattle.typed_ir.specs.Orders.{is_member, are_distinct}

mix : (b c m : Bool) → (cond b true c || m) ≡ (c || (b || m))
mix true true m = refl
mix true false m = refl
mix false c m = refl

-- one more number of the list in the set
pub one_more : (xs : List ℕ) (i q d : ℕ) (c : Bool) → i < length xs
    → (cond (get_or xs i d == q) true c || is_member q (drop (i + 1) xs)) ≡ (c || is_member q (drop i xs))
one_more xs i q d c h =
    mix (get_or xs i d == q) c (is_member q (drop (i + 1) xs))
    ∙ ap (λ b. c || (b || is_member q (drop (i + 1) xs))) (turned (get_or xs i d) q)
    ∙ ap (λ zs. c || is_member q zs) (sym (drop_split xs i d h))

-- from the end
pub one_before : (xs : List ℕ) (i q d : ℕ) → i < length xs → cond (get_or xs i d == q) true (is_member q (drop (i + 1) xs)) ≡ is_member q (drop i xs)
one_before xs i q d h =
    cond_or (get_or xs i d == q) (is_member q (drop (i + 1) xs))
    ∙ ap (λ b. b || is_member q (drop (i + 1) xs)) (turned (get_or xs i d) q)
    ∙ ap (is_member q) (sym (drop_split xs i d h))

pub still_distinct : (xs : List ℕ) (i d : ℕ) → i < length xs → is_member (get_or xs i d) (drop (i + 1) xs) ≡ false → are_distinct (drop (i + 1) xs) ≡ true
    → are_distinct (drop i xs) ≡ true
still_distinct xs i d h new rest = ap are_distinct (drop_split xs i d h) ∙ ap₂ (λ (a b : Bool). not a && b) new rest

pub twice : (xs : List ℕ) (i d : ℕ) → i < length xs → is_member (get_or xs i d) (drop (i + 1) xs) ≡ true → are_distinct xs ≡ false
twice xs i d h old = later xs i (ap are_distinct (drop_split xs i d h) ∙ ap (λ a. not a && are_distinct (drop (i + 1) xs)) old)
  where
    later : (ys : List ℕ) (j : ℕ) → are_distinct (drop j ys) ≡ false → are_distinct ys ≡ false
    later ys zero e = e
    later [] (suc j) e = e
    later (y ∷ ys) (suc j) e = and_right (not (is_member y ys)) (are_distinct ys) (later ys j e)
