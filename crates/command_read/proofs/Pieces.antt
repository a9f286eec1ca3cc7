-- Bytes that a read puts behind others.
use Rattle.std.proofs.Common.{◌≡◌, ℕ, ◌≤◌, List, [], ◌∷◌, ◌++◌, length, take, drop, ap, ◌∙◌, arith}
use Rattle.std.proofs.lemmas.List.{drop-append-le}

-- one byte
pub single : (n : ℕ) (xs : List ℕ) → n ≡ 1 → n ≤ length xs → (x : ℕ) × (take n xs ≡ [] ++ x ∷ [])
single n [] one within = absurd (omega (arith, one, within))
single n (x ∷ xs) one within = (x, ap (λ k. take k (x ∷ xs)) one)

-- what is left of bytes with others behind
pub left_more : (at : ℕ) (held new piece : List ℕ) → at ≤ length held → new ≡ held ++ piece → drop at new ≡ drop at held ++ piece
left_more at held new piece within is = ap (drop at) is ∙ drop-append-le at held piece within
