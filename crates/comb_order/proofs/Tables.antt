-- Tables by rows, and the drivers of a signal.
use Rattle.std.proofs.Common.{◌≡◌, ℕ, zero, suc, ◌+◌, ◌<◌, ◌==◌, Bool, true, false, ◌||◌, ◌&&◌, List, [], ◌∷◌, ◌++◌, length, map, take, get_or, set, refl, sym, ◌∙◌, ap, ap₂, arith}
use Rattle.std.proofs.Math.Bool.{or-false, or_assoc}
use Rattle.std.specs.declared.vec.Vec.{Vec}
use Rattle.std.specs.Global.{Global}
use Rattle.std.specs.Prelude.{bit_or}
use Rattle.std.proofs.lemmas.Bool.{eqb-true, eqb-false, ne_eqb}
use Rattle.typed_ir.specs.Valuations.{Places, nowhere}
use Rattle.typed_ir.specs.Orders.{at_or}
use Rattle.typed_ir.specs.Touches.{has_bit}
use Rattle.typed_ir.specs.Rows.{row_in}
use Rattle.typed_ir.proofs.Cases.{by_cases, same_suc}
use Rattle.typed_ir.proofs.Masks.{has_either, or_nothing}
use Rattle.typed_ir.proofs.Rows.{row_same, row_other}
use Rattle.comb_order.specs.declared.drivers.Driver.{Driver}
use Rattle.comb_order.specs.Graphs.{row_at, rows_of}
use Rattle.comb_order.specs.Driving.{drives_in}

-- ---- rows

pub rows_row : (g : List (Vec ℕ Global)) (k : ℕ) → row_at (rows_of g) k ≡ row_in g k
rows_row [] k = refl
rows_row (r ∷ rs) zero = refl
rows_row (r ∷ rs) (suc k) = rows_row rs k

-- ---- drivers

and_or : (a b c : Bool) → (a && (b || c)) ≡ ((a && b) || (a && c))
and_or true b c = refl
and_or false b c = refl

pub drives_both : (xs ys : List Driver) (a i : ℕ) → drives_in (xs ++ ys) a i ≡ (drives_in xs a i || drives_in ys a i)
drives_both [] ys a i = refl
drives_both (x ∷ xs) ys a i =
    ap (λ t. ((a == x.item) && has_bit x.mask i) || t) (drives_both xs ys a i)
    ∙ sym (or_assoc ((a == x.item) && has_bit x.mask i) (drives_in xs a i) (drives_in ys a i))

pub drives_one : (d : Driver) (a i : ℕ) → drives_in (d ∷ []) a i ≡ ((a == d.item) && has_bit d.mask i)
drives_one d a i = or-false ((a == d.item) && has_bit d.mask i)

-- the last driver's mask takes more bits
pub drives_merged : (xs : List Driver) (node m n a i : ℕ)
    → drives_in (xs ++ record { item = node; mask = bit_or m n } ∷ []) a i
    ≡ (drives_in (xs ++ record { item = node; mask = m } ∷ []) a i || ((a == node) && has_bit n i))
drives_merged xs node m n a i =
    let d : Driver = record { item = node; mask = m } in
    let e : Driver = record { item = node; mask = bit_or m n } in
    drives_both xs (e ∷ []) a i ∙ ap (λ t. drives_in xs a i || t)
    (drives_one e a i ∙ ap (λ t. (a == node) && t) (has_either m n i) ∙ and_or (a == node) (has_bit m i) (has_bit n i)
    ∙ ap (λ t. t || ((a == node) && has_bit n i)) (sym (drives_one d a i)))
    ∙ sym (or_assoc (drives_in xs a i) (drives_in (d ∷ []) a i) ((a == node) && has_bit n i))
    ∙ ap (λ t. t || ((a == node) && has_bit n i)) (sym (drives_both xs (d ∷ []) a i))

-- one row of the table takes more bits of a node
pub touch_added : (table : List (Vec Driver Global)) (k : ℕ) (r : Vec Driver Global) (node mask : ℕ) → k < length table
    → ((a i : ℕ) → drives_in r.items a i ≡ (drives_in (row_in table k) a i || ((a == node) && has_bit mask i)))
    → (a s i : ℕ) → drives_in (row_in (set table k r) s) a i ≡ (drives_in (row_in table s) a i || ((a == node) && ((s == k) && has_bit mask i)))
touch_added table k r node mask h step a s i =
    by_cases (s == k)
    (λ yes. let e : s ≡ k = eqb-true s k yes in
    ap (λ z. drives_in (row_in (set table k r) z) a i) e ∙ ap (λ z. drives_in z a i) (row_same table k r h) ∙ step a i
    ∙ sym (ap₂ (λ z t. drives_in (row_in table z) a i || ((a == node) && (t && has_bit mask i))) e yes))
    (λ out. ap (λ z. drives_in z a i) (row_other table k s r (eqb-false s k out))
    ∙ sym (ap (λ t. drives_in (row_in table s) a i || ((a == node) && (t && has_bit mask i))) out ∙ or_nothing (drives_in (row_in table s) a i) (a == node)))

-- ---- nodes and blocks by number

-- one more of a list
pub at_more : {A N : Type 0} (f : N → Places) (g : A → N) (xs : List A) (k : ℕ) (x : A) (a s i : ℕ) → k < length xs → x ≡ get_or xs k x
    → at_or f nowhere (map g (take (k + 1) xs)) a s i ≡ (at_or f nowhere (map g (take k xs)) a s i || ((a == k) && f (g x) s i))
at_more {A} f g xs k x a s i h is =
    let more : k + 1 ≡ suc k = omega arith in
    ap (λ n. at_or f nowhere (map g (take n xs)) a s i) more ∙ go xs k a h is
  where
    go : (ys : List A) (k a : ℕ) → k < length ys → x ≡ get_or ys k x
        → at_or f nowhere (map g (take (suc k) ys)) a s i ≡ (at_or f nowhere (map g (take k ys)) a s i || ((a == k) && f (g x) s i))
    go [] k a h is = absurd (omega (arith, h))
    go (y ∷ ys) zero zero h is = ap (λ z. f (g z) s i) (sym is)
    go (y ∷ ys) zero (suc a) h is = sym (ap (λ b. b && f (g x) s i) (ne_eqb (suc a) 0 (λ e. omega (arith, e))))
    go (y ∷ ys) (suc k) zero h is =
        sym (ap (λ b. f (g y) s i || (b && f (g x) s i)) (ne_eqb 0 (suc k) (λ e. omega (arith, e)))
        ∙ or-false (f (g y) s i))
    go (y ∷ ys) (suc k) (suc a) h is =
        go ys k a (omega (arith, h)) is
        ∙ ap (λ b. at_or f nowhere (map g (take k ys)) a s i || (b && f (g x) s i)) (sym (same_suc a k))
