-- The node of a number.
use Rattle.std.proofs.Common.{◌≡◌, ℕ, zero, suc, ◌<◌, List, [], ◌∷◌, length, map, get_or, sym, ap, arith}
use Rattle.typed_ir.specs.Orders.{at_or}

pub at_read : {A N B : Type 0} (f : N → B) (d : B) (g : A → N) (xs : List A) (k : ℕ) (x : A) → k < length xs → x ≡ get_or xs k x
    → at_or f d (map g xs) k ≡ f (g x)
at_read f d g [] k x h is = absurd (omega (arith, h))
at_read f d g (y ∷ ys) zero x h is = ap (λ z. f (g z)) (sym is)
at_read f d g (y ∷ ys) (suc k) x h is = at_read f d g ys k x (omega (arith, h)) is
