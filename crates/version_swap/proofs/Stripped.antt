-- Texts of one length are told by what is left without the same byte in front.
use Rattle.std.proofs.Common.{◌≡◌, ℕ, zero, suc, ◌+◌, ◌-◌, ◌<◌, ◌≤◌, ◌==◌, min, cond, Bool, true, false, List, [], ◌∷◌, ◌++◌, drop, length, replicate, refl, sym, ap, ap₂, ◌∙◌, subst, arith, eqb-true, length-drop}
use Rattle.std.proofs.lemmas.List.Sums.{prefix_len-le-length}
use Rattle.std.specs.List.{prefix_len}

abbrev leading : ℕ → List ℕ → ℕ
leading byte xs = prefix_len (λ c. c == byte) xs

step : (byte n x : ℕ) (xs : List ℕ) (same : Bool) → (x == byte) ≡ same → suc n ≤ leading byte (x ∷ xs)
    → (n ≤ leading byte xs → xs ≡ replicate n byte ++ drop n xs) → x ∷ xs ≡ replicate (suc n) byte ++ drop n xs
step byte n x xs true is few so =
    let enough : suc n ≤ 1 + leading byte xs = subst (λ b. suc n ≤ cond b (1 + leading byte xs) 0) is few in
    ap₂ (λ c rest. c ∷ rest) (eqb-true x byte is) (so (omega (arith, enough)))
step byte n x xs false is few so =
    let none : suc n ≤ 0 = subst (λ b. suc n ≤ cond b (1 + leading byte xs) 0) is few in
    absurd (omega (arith, none))

-- what is taken off in front is that byte
front : (byte n : ℕ) (xs : List ℕ) → n ≤ leading byte xs → xs ≡ replicate n byte ++ drop n xs
front byte zero xs few = refl
front byte (suc n) [] few = absurd (omega (arith, few))
front byte (suc n) (x ∷ xs) few = step byte n x xs (x == byte) refl few (λ h. front byte n xs h)

-- of two texts of one length that are longer than what may be taken off
pub stripped : (byte most : ℕ) (xs ys : List ℕ) → length xs ≡ length ys → most < length xs
    → drop (min (leading byte xs) most) xs ≡ drop (min (leading byte ys) most) ys → xs ≡ ys
stripped byte most xs ys long few e =
    let m = min (leading byte xs) most in
    let n = min (leading byte ys) most in
    let within_x : leading byte xs ≤ length xs = prefix_len-le-length (λ c. c == byte) xs in
    let within_y : leading byte ys ≤ length ys = prefix_len-le-length (λ c. c == byte) ys in
    let left : length xs - m ≡ length ys - n = sym (length-drop m xs) ∙ ap length e ∙ length-drop n ys in
    let same : m ≡ n = omega (arith, left, long, few, within_x, within_y) in
    front byte m xs (omega arith) ∙ ap₂ (λ k rest. replicate k byte ++ rest) same e ∙ sym (front byte n ys (omega arith))
