-- Texts without a byte, and a text cut where the byte comes first.
use Rattle.std.proofs.Common.{◌≡◌, ◌∙◌, ℕ, zero, suc, List, [], ◌∷◌, ◌++◌, drop, refl, sym, ap₂}
use Rattle.std.specs.Prelude.{⊤}
use Rattle.version_swap.specs.Proper.{IsFreeOf}

-- the text is over, or the byte comes next
abbrev pub EndsHere : ℕ → List ℕ → Type 0
EndsHere c [] = ⊤
EndsHere c (b ∷ bs) = b ≡ c

pub cut_first : (c : ℕ) (a b x y : List ℕ) → IsFreeOf c a → IsFreeOf c b → EndsHere c x → EndsHere c y → a ++ x ≡ b ++ y → (a ≡ b) × (x ≡ y)
cut_first c [] [] x y free free' ends ends' same = (refl, same)
cut_first c [] (d ∷ b) [] y free free' ends ends' same = absurd cc
cut_first c [] (d ∷ b) (h ∷ x) y free free' ends ends' same = let first : h ≡ d = cc in absurd (free'.0 (sym first ∙ ends))
cut_first c (d ∷ a) [] x [] free free' ends ends' same = absurd cc
cut_first c (d ∷ a) [] x (h ∷ y) free free' ends ends' same = let first : d ≡ h = cc in absurd (free.0 (first ∙ ends'))
cut_first c (d ∷ a) (f ∷ b) x y free free' ends ends' same =
    let first : d ≡ f = cc in let rest : a ++ x ≡ b ++ y = cc in
    let more = cut_first c a b x y free.1 free'.1 ends ends' rest in
    (ap₂ (λ (n : ℕ) (l : List ℕ). n ∷ l) first more.0, more.1)

pub free_append : (c : ℕ) (a b : List ℕ) → IsFreeOf c a → IsFreeOf c b → IsFreeOf c (a ++ b)
free_append c [] b free more = more
free_append c (d ∷ a) b free more = (free.0, free_append c a b free.1 more)

pub free_drop : (c n : ℕ) (a : List ℕ) → IsFreeOf c a → IsFreeOf c (drop n a)
free_drop c zero a free = free
free_drop c (suc n) [] free = free
free_drop c (suc n) (d ∷ a) free = free_drop c n a free.1
