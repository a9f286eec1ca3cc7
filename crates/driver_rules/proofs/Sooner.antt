-- The earliest of some mentions, one after another.
use Rattle.std.proofs.Common.{◌≡◌, ◌<◌, ◌≤◌, ◌+◌, ℕ, suc, Bool, true, false, cond, nat_le, List, [], ◌∷◌, ◌++◌, length, drop, get_or, Option, Some, None, refl, sym, ◌∙◌, ap, arith}
use Rattle.std.specs.Prelude.{option_to_list}
use Rattle.std.proofs.lemmas.Bool.{le-leb, lt-leb, leb-true, leb-false}
use Rattle.std.proofs.lemmas.List.{at_drop_all}
use Rattle.ls_text.specs.declared.place.Place.{Place}
use Rattle.typed_ir.specs.declared.mention.Mention.{Mention}
use Rattle.typed_ir.proofs.Cases.{by_cases}
use Rattle.typed_ir.proofs.Lists.{drop_split}
use Rattle.width_rules.specs.Faults.{fault}
use Rattle.driver_rules.specs.declared.shown.Shown.{Shown}
use Rattle.driver_rules.specs.Mentioned.{shown_at, sooner, earliest, shown_faults}

pub sooner_none : (x : Option Shown) → sooner x None ≡ x
sooner_none None = refl
sooner_none (Some x) = refl

three : (x y z : Shown) → sooner (sooner (Some x) (Some y)) (Some z) ≡ sooner (Some x) (sooner (Some y) (Some z))
three x y z =
    let first = λ (t : Bool). sooner (cond t (Some x) (Some y)) (Some z) in
    let last = λ (t : Bool). sooner (Some x) (cond t (Some y) (Some z)) in
    by_cases (nat_le x.order y.order)
    (λ b. ap first b ∙ by_cases (nat_le y.order z.order)
    (λ c. let e : nat_le x.order z.order ≡ true = le-leb x.order z.order (omega (arith, leb-true x.order y.order b, leb-true y.order z.order c)) in
    ap (λ t. cond t (Some x) (Some z)) e ∙ sym (ap last c ∙ ap (λ t. cond t (Some x) (Some y)) b))
    (λ c. sym (ap last c)))
    (λ b. ap first b ∙ by_cases (nat_le y.order z.order)
    (λ c. ap (λ t. cond t (Some y) (Some z)) c ∙ sym (ap last c ∙ ap (λ t. cond t (Some x) (Some y)) b))
    (λ c. let e : nat_le x.order z.order ≡ false = lt-leb x.order z.order (omega (arith, leb-false x.order y.order b, leb-false y.order z.order c)) in
    ap (λ t. cond t (Some y) (Some z)) c ∙ sym (ap last c ∙ ap (λ t. cond t (Some x) (Some z)) e)))

pub sooner_assoc : (x y z : Option Shown) → sooner (sooner x y) z ≡ sooner x (sooner y z)
sooner_assoc None y z = refl
sooner_assoc (Some x) None z = refl
sooner_assoc (Some x) (Some y) None = sooner_none (sooner (Some x) (Some y))
sooner_assoc (Some x) (Some y) (Some z) = three x y z

-- one more number
pub earliest_next : (numbers : List ℕ) (i d : ℕ) (mentions : List Mention) (at : Place) (found : Option Shown) (x : Shown) → i < length numbers
    → Some x ≡ sooner found (Some (shown_at mentions at (get_or numbers i d)))
    → sooner (Some x) (earliest (drop (i + 1) numbers) mentions at) ≡ sooner found (earliest (drop i numbers) mentions at)
earliest_next numbers i d mentions at found x h is =
    let rest = earliest (drop (i + 1) numbers) mentions at in
    let one = shown_at mentions at (get_or numbers i d) in
    ap (λ z. sooner z rest) is ∙ sooner_assoc found (Some one) rest
    ∙ ap (λ ns. sooner found (earliest ns mentions at)) (sym (drop_split numbers i d h))

-- where no fault is shown, nothing is at fault
pub none_shown : (code : ℕ) (numbers : List ℕ) (mentions : List Mention) (at : Place) → shown_faults code (earliest numbers mentions at) ≡ [] → numbers ≡ []
none_shown code [] mentions at h = refl
none_shown code (k ∷ ks) mentions at h = absurd (some (shown_at mentions at k) (earliest ks mentions at) h)
  where
    one : (x : Shown) → shown_faults code (Some x) ≡ [] → ⊥
    one x e = let long : length (shown_faults code (Some x)) ≡ 0 = ap length e in omega (arith, long)

    some : (x : Shown) (y : Option Shown) → shown_faults code (sooner (Some x) y) ≡ [] → ⊥
    some x None e = one x e
    some x (Some y) e = by_cases (nat_le x.order y.order)
        (λ b. one x (sym (ap (λ t. shown_faults code (cond t (Some x) (Some y))) b) ∙ e))
        (λ b. one y (sym (ap (λ t. shown_faults code (cond t (Some x) (Some y))) b) ∙ e))
