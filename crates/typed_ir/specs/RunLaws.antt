-- Runs of a design follow each other.
use Rattle.std.proofs.Common.{◌≡◌, ℕ, zero, suc, ◌+◌, List, sym, ◌∙◌, ap, ap₂}
use Rattle.std.proofs.Math.Nat.{add-zero, add-suc, add_assoc}
use Rattle.typed_ir.specs.Cycles.{Flat, input, step, seg}

-- a run that goes on where another ended, under the rows of the later cycles
pub seg_more : (design : Flat) (rows : ℕ → List ℕ) (a m n : ℕ) (state : List ℕ)
    → seg design rows (a + m) n (seg design rows a m state) ≡ seg design rows a (m + n) state
seg_more design rows a m zero state = ap (λ k. seg design rows a k state) (sym (add-zero m))
seg_more design rows a m (suc n) state =
    ap₂ (λ s k. step design s (input design (rows k))) (seg_more design rows a m n state) (add_assoc a m n)
    ∙ ap (λ k. seg design rows a k state) (sym (add-suc m n))
