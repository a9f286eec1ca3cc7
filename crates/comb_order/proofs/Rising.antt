-- Rows of drivers whose nodes rise.
use Rattle.std.proofs.Common.{◌≡◌, ℕ, ◌+◌, ◌<◌, ◌≤◌, ◌==◌, true, ◌&&◌, List, [], ◌∷◌, ◌++◌, length, set, sym, subst, arith, true≢false}
use Rattle.std.specs.declared.vec.Vec.{Vec}
use Rattle.std.specs.Global.{Global}
use Rattle.std.proofs.lemmas.Bool.{eqb-true, eqb-false}
use Rattle.typed_ir.specs.Touches.{has_bit}
use Rattle.typed_ir.specs.Rows.{row_in}
use Rattle.typed_ir.proofs.Cases.{by_cases, and_left, only_right}
use Rattle.typed_ir.proofs.Rows.{row_same, row_other}
use Rattle.comb_order.specs.declared.drivers.Driver.{Driver}
use Rattle.comb_order.specs.Driving.{drives_in, Rises, AllRise}

-- ---- a row

pub rises_wider : (low : ℕ) (ds : List Driver) (m n : ℕ) → m ≤ n → Rises low ds m → Rises low ds n
rises_wider low [] m n h r = omega (arith, h, r)
rises_wider low (d ∷ ds) m n h r = (r.0, rises_wider (d.item + 1) ds m n h r.1)

-- one more at the end
pub rises_more : (low : ℕ) (ds : List Driver) (d : Driver) (high : ℕ) → d.item < high → Rises low ds d.item → Rises low (ds ++ d ∷ []) high
rises_more low [] d high h r = (r, omega (arith, h))
rises_more low (x ∷ ds) d high h r = (r.0, rises_more (x.item + 1) ds d high h r.1)

-- one less at the end
pub rises_less : (low : ℕ) (ds : List Driver) (d : Driver) (high : ℕ) → Rises low (ds ++ d ∷ []) high → Rises low ds d.item × (d.item < high)
rises_less low [] d high r = let top : d.item + 1 ≤ high = r.1 in (r.0, omega (arith, top))
rises_less low (x ∷ ds) d high r =
    let rest : Rises (x.item + 1) ds d.item × (d.item < high) = rises_less (x.item + 1) ds d high r.1 in
    ((r.0, rest.0), rest.1)

-- the last driver's node again
pub rises_again : (ds : List Driver) (last d : Driver) (high : ℕ) → last.item ≡ d.item → Rises 0 (ds ++ last ∷ []) high → Rises 0 (ds ++ d ∷ []) high
rises_again ds last d high e r =
    let rest : Rises 0 ds last.item × (last.item < high) = rises_less 0 ds last high r in
    let top : last.item < high = rest.1 in
    rises_more 0 ds d high (omega (arith, top, e)) (subst (λ n. Rises 0 ds n) e rest.0)

-- another node behind the last
pub rises_next : (ds : List Driver) (last d : Driver) → (last.item ≡ d.item → ⊥) → Rises 0 (ds ++ last ∷ []) (d.item + 1)
    → Rises 0 ((ds ++ last ∷ []) ++ d ∷ []) (d.item + 1)
rises_next ds last d other r =
    let rest : Rises 0 ds last.item × (last.item < d.item + 1) = rises_less 0 ds last (d.item + 1) r in
    let top : last.item < d.item + 1 = rest.1 in
    rises_more 0 (ds ++ last ∷ []) d (d.item + 1) (omega arith) (rises_more 0 ds last d.item (omega (arith, top, other)) rest.0)

-- whoever drives stands from low on
pub from_low : (low : ℕ) (ds : List Driver) (high a i : ℕ) → Rises low ds high → drives_in ds a i ≡ true → low ≤ a
from_low low [] high a i r d = absurd (true≢false (sym d))
from_low low (x ∷ ds) high a i r d =
    let from : low ≤ x.item = r.0 in
    by_cases ((a == x.item) && has_bit x.mask i)
    (λ here. let e : a ≡ x.item = eqb-true a x.item (and_left (a == x.item) (has_bit x.mask i) here) in omega (arith, from, e))
    (λ out. let later : x.item + 1 ≤ a = from_low (x.item + 1) ds high a i r.1 (only_right ((a == x.item) && has_bit x.mask i) (drives_in ds a i) out d) in
    omega (arith, from, later))

-- ---- a table

pub none_rise : (table : List (Vec Driver Global)) → ((s : ℕ) → row_in table s ≡ []) → AllRise table 0
none_rise table none s = subst (λ ds. Rises 0 ds 0) (sym (none s)) (omega arith)

pub all_wider : (table : List (Vec Driver Global)) (m n : ℕ) → m ≤ n → AllRise table m → AllRise table n
all_wider table m n h r s = rises_wider 0 (row_in table s) m n h (r s)

-- one row is another
pub one_rises : (table : List (Vec Driver Global)) (k : ℕ) (row : Vec Driver Global) (high : ℕ) → k < length table → Rises 0 row.items high → AllRise table high
    → AllRise (set table k row) high
one_rises table k row high h new r s =
    by_cases (s == k)
    (λ yes. subst (λ z. Rises 0 (row_in (set table k row) z) high) (sym (eqb-true s k yes)) (subst (λ ds. Rises 0 ds high) (sym (row_same table k row h)) new))
    (λ out. subst (λ ds. Rises 0 ds high) (sym (row_other table k s row (eqb-false s k out))) (r s))
