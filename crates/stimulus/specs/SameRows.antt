-- Rows that are the same are equal.
use Rattle.std.proofs.Common.{◌≡◌, ℕ, true, ◌&&◌, ◌==◌, List, [], ◌∷◌, refl, sym, ◌∙◌, ap, ap₂, ◌↔◌, true≢false}
use Rattle.std.proofs.lemmas.Bool.{eqb-true, eq-eqb, and_from, and_parts}
use Rattle.stimulus.specs.Rows.{are_same}

same_rows : (x y : List (ℕ × ℕ)) → are_same x y ≡ true → x ≡ y
same_rows [] [] h = refl
same_rows [] (y ∷ ys) h = absurd (true≢false (sym h))
same_rows (x ∷ xs) [] h = absurd (true≢false (sym h))
same_rows (x ∷ xs) (y ∷ ys) h =
    let parts = and_parts ((x.0 == y.0) && (x.1 == y.1)) (are_same xs ys) h in
    let both = and_parts (x.0 == y.0) (x.1 == y.1) parts.0 in
    let make = λ (n v : ℕ). let p : ℕ × ℕ = (n, v) in p in
    let pair : x ≡ y = ap₂ make (eqb-true x.0 y.0 both.0) (eqb-true x.1 y.1 both.1) in
    ap₂ (λ (z : ℕ × ℕ) (zs : List (ℕ × ℕ)). z ∷ zs) pair (same_rows xs ys parts.1)

pub same_itself : (x : List (ℕ × ℕ)) → are_same x x ≡ true
same_itself [] = refl
same_itself (x ∷ xs) =
    and_from ((x.0 == x.0) && (x.1 == x.1)) (are_same xs xs)
    (and_from (x.0 == x.0) (x.1 == x.1) (eq-eqb x.0 x.0 refl) (eq-eqb x.1 x.1 refl)) (same_itself xs)

-- rows are the same just where they are equal
pub same_is : (x y : List (ℕ × ℕ)) → (are_same x y ≡ true) ↔ (x ≡ y)
same_is x y = (same_rows x y, λ e. ap (are_same x) (sym e) ∙ same_itself x)
