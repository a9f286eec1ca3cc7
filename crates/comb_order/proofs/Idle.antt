-- Drivers of no bit.
use Rattle.std.proofs.Common.{◌≡◌, ℕ, ◌%◌, ◌^◌, ◌<◌, ◌==◌, inl, inr, true, false, ◌&&◌, List, [], ◌∷◌, refl, sym, ◌∙◌, ap, arith, true≢false}
use Rattle.std.specs.Int.{bit_at}
use Rattle.std.proofs.lemmas.Bool.{eqb-true, eqb-false, eq-eqb, and_from, and_right, and_parts, or_from}
use Rattle.std.proofs.lemmas.Nat.{pow_pos}
use Rattle.std.proofs.lemmas.Nat.Bits.{bit_at-lt, bit_at-zero, same_from_bits_below}
use Rattle.bits.proofs.Runs.{below_pow, bit_at-mod_in}
use Rattle.typed_ir.specs.Touches.{has_bit}
use Rattle.typed_ir.proofs.Cases.{by_cases, left_or, or_right}
use Rattle.typed_ir.proofs.Masks.{no_bit}
use Rattle.comb_order.specs.declared.drivers.Driver.{Driver}
use Rattle.comb_order.specs.Driving.{drives_in}
use Rattle.comb_order.specs.Parts.{is_idle, are_idle}
use Rattle.comb_order.proofs.Edging.{find}

idle_bit : (m i : ℕ) → i < 128 → (m % 2 ^ 128 == 0) ≡ true → has_bit m i ≡ false
idle_bit m i small h =
    ap (λ b. b == 1) (sym (bit_at-mod_in m 128 i small) ∙ ap (λ n. bit_at n i) (eqb-true (m % 2 ^ 128) 0 h)) ∙ no_bit i

some_bit : (m : ℕ) → (m % 2 ^ 128 == 0) ≡ false → (i : ℕ) × (i < 128) × (has_bit m i ≡ true)
some_bit m h = elim (find 128 (λ i. has_bit m i)) as (λ _. (i : ℕ) × (i < 128) × (has_bit m i ≡ true)) [
  | inl f ↦ f
  | inr none ↦ absurd (eqb-false (m % 2 ^ 128) 0 h
      (same_from_bits_below 128 (m % 2 ^ 128) 0 (below_pow m 128) (pow_pos 128) (λ i small. nothing i small (none i small))))
]
  where
    nothing : (i : ℕ) → i < 128 → has_bit m i ≡ false → bit_at (m % 2 ^ 128) i ≡ bit_at 0 i
    nothing i small out =
        let e : bit_at (m % 2 ^ 128) i ≡ bit_at m i = bit_at-mod_in m 128 i small in
        let z : bit_at 0 i ≡ 0 = bit_at-zero i in
        let s : bit_at m i < 2 = bit_at-lt m i in
        let other : bit_at m i ≡ 1 → ⊥ = eqb-false (bit_at m i) 1 out in
        omega (arith, e, z, s, other)

pub idle_drives : (ds : List Driver) (a i : ℕ) → i < 128 → are_idle ds ≡ true → drives_in ds a i ≡ false
idle_drives [] a i small h = refl
idle_drives (d ∷ ds) a i small h =
    or_from ((a == d.item) && has_bit d.mask i) (drives_in ds a i)
    (and_right (a == d.item) (has_bit d.mask i) (idle_bit d.mask i small (and_parts (is_idle d) (are_idle ds) h).0))
    (idle_drives ds a i small (and_parts (is_idle d) (are_idle ds) h).1)

-- where no node drives a bit, all are idle
pub all_idle : (ds : List Driver) → ((a i : ℕ) → i < 128 → drives_in ds a i ≡ false) → are_idle ds ≡ true
all_idle [] h = refl
all_idle (d ∷ ds) h =
    and_from (is_idle d) (are_idle ds)
    (by_cases (is_idle d) (λ yes. yes)
    (λ busy. let f : (i : ℕ) × (i < 128) × (has_bit d.mask i ≡ true) = some_bit d.mask busy in
    absurd (true≢false (sym (left_or ((d.item == d.item) && has_bit d.mask f.0) (drives_in ds d.item f.0)
    (and_from (d.item == d.item) (has_bit d.mask f.0) (eq-eqb d.item d.item refl) f.2)) ∙ h d.item f.0 f.1))))
    (all_idle ds (λ a i small. or_right ((a == d.item) && has_bit d.mask i) (drives_in ds a i) (h a i small)))
