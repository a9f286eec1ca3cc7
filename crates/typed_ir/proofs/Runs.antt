-- A run depends on the rows of its own cycles alone.
use Rattle.std.proofs.Common.{◌≡◌, ℕ, zero, suc, ◌+◌, ◌<◌, List, refl, ap₂, arith}
use Rattle.typed_ir.specs.Cycles.{Flat, input, step, seg}

pub seg_same : (design : Flat) (rows others : ℕ → List ℕ) (a b n : ℕ) (state : List ℕ)
    → ((t : ℕ) → t < n → rows (a + t) ≡ others (b + t)) → seg design rows a n state ≡ seg design others b n state
seg_same design rows others a b zero state h = refl
seg_same design rows others a b (suc n) state h =
    ap₂ (λ s row. step design s (input design row)) (seg_same design rows others a b n state (λ t k. h t (omega (arith, k)))) (h n (omega arith))
