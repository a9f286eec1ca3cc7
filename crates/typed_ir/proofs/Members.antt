-- Members of lists.
use Rattle.std.proofs.Common.{◌≡◌, ℕ, true, ◌==◌, List, [], ◌∷◌, ◌++◌, ◌⊎◌, inl, inr, map, refl, ap₂, eq-eqb, Bool, false, cond, filter, ap, ◌∙◌}
use Rattle.typed_ir.specs.Orders.{Member, Distinct, is_member}
use Rattle.typed_ir.proofs.Cases.{left_or, right_or}

pub member_append : (x : ℕ) (xs ys : List ℕ) → Member x (xs ++ ys) → Member x xs ⊎ Member x ys
member_append x [] ys m = inr m
member_append x (y ∷ xs) ys (inl e) = inl (inl e)
member_append x (y ∷ xs) ys (inr m) = later (member_append x xs ys m)
  where
    later : Member x xs ⊎ Member x ys → Member x (y ∷ xs) ⊎ Member x ys
    later (inl k) = inl (inr k)
    later (inr k) = inr k

pub member_left : (x : ℕ) (xs ys : List ℕ) → Member x xs → Member x (xs ++ ys)
member_left x [] ys m = absurd m
member_left x (y ∷ xs) ys (inl e) = inl e
member_left x (y ∷ xs) ys (inr m) = inr (member_left x xs ys m)

pub member_right : (x : ℕ) (xs ys : List ℕ) → Member x ys → Member x (xs ++ ys)
member_right x [] ys m = m
member_right x (y ∷ xs) ys m = inr (member_right x xs ys m)

-- each member is found by the test
pub is_of : (x : ℕ) (xs : List ℕ) → Member x xs → is_member x xs ≡ true
is_of x [] m = absurd m
is_of x (y ∷ ys) (inl e) = left_or (x == y) (is_member x ys) (eq-eqb x y e)
is_of x (y ∷ ys) (inr m) = right_or (x == y) (is_member x ys) (is_of x ys m)

-- a member that isn't the first
pub member_later : (x y : ℕ) (ys : List ℕ) → (x ≡ y → ⊥) → Member x (y ∷ ys) → Member x ys
member_later x y ys other (inl e) = absurd (other e)
member_later x y ys other (inr m) = m

-- a member of what a test leaves meets it
pub member_filtered : {A : Type 0} (test : A → Bool) (xs : List A) (y : A) → Member y (filter test xs) → Member y xs × (test y ≡ true)
member_filtered test [] y m = absurd m
member_filtered {A} test (x ∷ xs) y m = by (test x) refl (member_filtered test xs y) m
  where
    later : Member y xs × (test y ≡ true) → Member y (x ∷ xs) × (test y ≡ true)
    later h = (inr h.0, h.1)

    by : (b : Bool) → test x ≡ b → (Member y (filter test xs) → Member y xs × (test y ≡ true)) → Member y (cond b (x ∷ filter test xs) (filter test xs))
        → Member y (x ∷ xs) × (test y ≡ true)
    by true is rest (inl e) = (inl e, ap test e ∙ is)
    by true is rest (inr h) = later (rest h)
    by false is rest h = later (rest h)

-- no number stands twice in two lists that share none
pub distinct_append : (xs ys : List ℕ) → Distinct xs → Distinct ys → ((x : ℕ) → Member x xs → Member x ys → ⊥) → Distinct (xs ++ ys)
distinct_append [] ys p q apart = q
distinct_append (x ∷ xs) ys p q apart =
    ((λ m. either (member_append x xs ys m)), distinct_append xs ys p.1 q (λ y a b. apart y (inr a) b))
  where
    either : Member x xs ⊎ Member x ys → ⊥
    either (inl m) = p.0 m
    either (inr m) = apart x (inl refl) m

-- two views that show the same of each member
pub map_same : (f g : ℕ → ℕ) (ts : List ℕ) → ((t : ℕ) → Member t ts → f t ≡ g t) → map f ts ≡ map g ts
map_same f g [] h = refl
map_same f g (t ∷ ts) h = ap₂ (λ (z : ℕ) (zs : List ℕ). z ∷ zs) (h t (inl refl)) (map_same f g ts (λ u m. h u (inr m)))
