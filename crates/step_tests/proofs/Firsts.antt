-- Registers that are all the first signal.
use Rattle.std.proofs.Common.{◌≡◌, ℕ, zero, suc, true, refl}
use Rattle.std.specs.Prelude.{replicate}
use Rattle.typed_ir.specs.Flats.{are_below}

pub firsts_below : (n : ℕ) → are_below (replicate n 0) 1 ≡ true
firsts_below zero = refl
firsts_below (suc n) = firsts_below n
