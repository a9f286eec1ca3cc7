-- The rest of a list, element by element, and what holds of each.
use Rattle.std.proofs.Common.{◌≡◌, ℕ, zero, suc, ◌+◌, ◌<◌, ◌≤◌, nat_lt, true, List, [], ◌∷◌, ◌++◌, map, length, get_or, take, drop, drop-cons, refl, sym, ◌∙◌, ap, arith}
use Rattle.std.proofs.Math.Seq.{take-append_seam}
use Rattle.std.proofs.lemmas.Bool.{ltb-true}
use Rattle.typed_ir.specs.Orders.{Each, at_or}
use Rattle.typed_ir.specs.Flats.{are_below}
use Rattle.typed_ir.proofs.Cases.{and_left, and_right}
pub use Rattle.std.proofs.lemmas.List.{drop_more as drop_split}
pub use Rattle.ls_text.proofs.Lists.{none_is_some, joined_so}
use Rattle.std.proofs.lemmas.List.{take_more}

-- what is left at a place is its element and what is left after it
pub drop_read : {A : Type 0} (xs : List A) (i : ℕ) (x : A) → i < length xs → x ≡ get_or xs i x → drop i xs ≡ x ∷ drop (i + 1) xs
drop_read xs i x h is =
    let more : suc i ≡ i + 1 = omega arith in
    drop-cons xs i x h ∙ ap (λ z. z ∷ drop (suc i) xs) (sym is) ∙ ap (λ n. x ∷ drop n xs) more

-- and one more of the beginning of a list
pub take_next : {A : Type 0} (xs : List A) (i : ℕ) (x : A) → i < length xs → x ≡ get_or xs i x → take (i + 1) xs ≡ take i xs ++ x ∷ []
take_next xs i x h is = take_more xs i x h ∙ ap (λ z. take i xs ++ z ∷ []) (sym is)

-- a vector that was handed to a call as a slice
pub written_back : {A : Type 0} (n : ℕ) (new old : List A) → length new ≡ length old → length new ≡ n → take n (new ++ drop (length new) old) ≡ new
written_back n new old same is = ap (λ k. take k (new ++ drop (length new) old)) (sym is) ∙ take-append_seam new (drop (length new) old)

-- ---- what holds of each element

pub each_append : {A : Type 0} (P : A → Type 0) (xs ys : List A) → Each P xs → Each P ys → Each P (xs ++ ys)
each_append P [] ys h k = k
each_append P (x ∷ xs) ys h k = (h.0, each_append P xs ys h.1 k)

pub each_left : {A : Type 0} (P : A → Type 0) (xs ys : List A) → Each P (xs ++ ys) → Each P xs
each_left P [] ys h = tt
each_left P (x ∷ xs) ys h = (h.0, each_left P xs ys h.1)

pub each_right : {A : Type 0} (P : A → Type 0) (xs ys : List A) → Each P (xs ++ ys) → Each P ys
each_right P [] ys h = h
each_right P (x ∷ xs) ys h = each_right P xs ys h.1

pub each_map : {A B : Type 0} (P : B → Type 0) (Q : A → Type 0) (f : A → B) (xs : List A) → ((x : A) → Q x → P (f x)) → Each Q xs → Each P (map f xs)
each_map P Q f [] h all = tt
each_map P Q f (x ∷ xs) h all = (h x all.0, each_map P Q f xs h all.1)

pub each_weaker : {A : Type 0} (P Q : A → Type 0) (xs : List A) → ((x : A) → P x → Q x) → Each P xs → Each Q xs
each_weaker P Q [] f h = tt
each_weaker P Q (x ∷ xs) f h = (f x h.0, each_weaker P Q xs f h.1)

-- ---- elements by their number

pub at_or_read : {A B : Type 0} (f : A → B) (d : B) (xs : List A) (k : ℕ) (x : A) → k < length xs → x ≡ get_or xs k x → at_or f d xs k ≡ f x
at_or_read f d [] k x h is = absurd (omega (arith, h))
at_or_read f d (y ∷ ys) zero x h is = ap f (sym is)
at_or_read f d (y ∷ ys) (suc k) x h is = at_or_read f d ys k x (omega (arith, h)) is

-- the k-th of a list that is seen by a view
pub at_map : {X Y A : Type 0} (f : Y → A) (d : A) (g : X → Y) (xs : List X) (k : ℕ) (x : X) → k < length xs → x ≡ get_or xs k x → at_or f d (map g xs) k ≡ f (g x)
at_map f d g [] k x h is = absurd (omega (arith, h))
at_map f d g (y ∷ ys) zero x h is = ap (λ z. f (g z)) (sym is)
at_map f d g (y ∷ ys) (suc k) x h is = at_map f d g ys k x (omega (arith, h)) is

pub at_beyond : {X Y A : Type 0} (f : Y → A) (d : A) (g : X → Y) (xs : List X) (k : ℕ) → length xs ≤ k → at_or f d (map g xs) k ≡ d
at_beyond f d g [] k h = refl
at_beyond f d g (y ∷ ys) zero h = absurd (omega (arith, h))
at_beyond f d g (y ∷ ys) (suc k) h = at_beyond f d g ys k (omega (arith, h))

-- each number of a list is below what all are below
pub below_read : (rs : List ℕ) (n i : ℕ) → are_below rs n ≡ true → i < length rs → get_or rs i 0 < n
below_read [] n i h less = absurd (omega (arith, less))
below_read (r ∷ rs) n zero h less = ltb-true r n (and_left (nat_lt r n) (are_below rs n) h)
below_read (r ∷ rs) n (suc i) h less = below_read rs n i (and_right (nat_lt r n) (are_below rs n) h) (omega (arith, less))
