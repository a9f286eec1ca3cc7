-- Registers one by one, and what their signals have.
use Rattle.std.proofs.Common.{◌≡◌, ℕ, zero, suc, ◌+◌, ◌<◌, nat_lt, List, [], ◌∷◌, length, map, get_or, drop, IsTrue, refl, sym, ◌∙◌, ap, ap₂, subst, arith}
use Rattle.std.specs.Prelude.{slice_get, slice_index, Some}
use Rattle.std.proofs.lemmas.Bool.{ltb-true}
use Rattle.std.proofs.lemmas.Option.{same_Some, none-some}
use Rattle.typed_ir.specs.declared.signal.Signal.{Signal}
use Rattle.typed_ir.specs.Flats.{are_within}
use Rattle.typed_ir.specs.Orders.{at_or}
use Rattle.typed_ir.proofs.Cases.{and_left, and_right}
use Rattle.typed_ir.proofs.Lists.{at_or_read}
use Rattle.state_layout.specs.Words.{width_in}
use Rattle.reg_transform.specs.Beginnings.{initial_in}
use Rattle.reg_transform.specs.Regs.{register_of, register_at}
use Rattle.reg_transform.specs.Registers.{Register, widths_of}
use Rattle.reg_transform.specs.Numbers.{number_at}

-- the instance of a signal is there
pub within_read : (signals : List Signal) (count r : ℕ) (x : Signal) → IsTrue (are_within signals count) → r < length signals → x ≡ get_or signals r x → x.instance < count
within_read [] count r x w h is = absurd (omega (arith, h))
within_read (y ∷ ys) count zero x w h is =
    let small : y.instance < count = ltb-true y.instance count (and_left (nat_lt y.instance count) (are_within ys count) w) in
    subst (λ (z : Signal). z.instance < count) (sym is) small
within_read (y ∷ ys) count (suc r) x w h is =
    within_read ys count r x (and_right (nat_lt y.instance count) (are_within ys count) w) (omega (arith, h)) is

-- what the signal of a register has
pub register_read : {T : Type 0} (f : Signal → T) (d : T) (signals : List Signal) (rs : List ℕ) (i r : ℕ) (x : Signal) → i < length rs → r ≡ get_or rs i 0
    → r < length signals → x ≡ get_or signals r x → slice_get (map (at_or f d signals) rs) i ≡ Some (f x)
register_read f d signals [] i r x h e there is = absurd (omega (arith, h))
register_read f d signals (q ∷ qs) zero r x h e there is = ap Some (ap (at_or f d signals) (sym e) ∙ at_or_read f d signals r x there is)
register_read f d signals (q ∷ qs) (suc i) r x h e there is = register_read f d signals qs i r x (omega (arith, h)) e there is

-- what the signal of a register begins with
one_initial : (signals : List Signal) (r : ℕ) (x : Signal) → r < length signals → x ≡ get_or signals r x → initial_in signals r ≡ x.initial
one_initial [] r x h is = absurd (omega (arith, h))
one_initial (y ∷ ys) zero x h is = ap (λ (z : Signal). z.initial) (sym is)
one_initial (y ∷ ys) (suc r) x h is = one_initial ys r x (omega (arith, h)) is

pub initial_read : (signals : List Signal) (rs : List ℕ) (i r : ℕ) (x : Signal) → i < length rs → r ≡ get_or rs i 0
    → r < length signals → x ≡ get_or signals r x → slice_get (map (initial_in signals) rs) i ≡ Some x.initial
initial_read signals [] i r x h e there is = absurd (omega (arith, h))
initial_read signals (q ∷ qs) zero r x h e there is = ap Some (ap (initial_in signals) (sym e) ∙ one_initial signals r x there is)
initial_read signals (q ∷ qs) (suc i) r x h e there is = initial_read signals qs i r x (omega (arith, h)) e there is

-- the width of a register's signal is that of the register
one_width : (paths : List (List ℕ)) (signals : List Signal) (r : ℕ) → width_in signals r ≡ (register_at paths signals r).width
one_width paths [] r = refl
one_width paths (x ∷ xs) zero = refl
one_width paths (x ∷ xs) (suc r) = one_width paths xs r

pub widths_are : (paths : List (List ℕ)) (signals : List Signal) (rs : List ℕ) → map (width_in signals) rs ≡ widths_of (map (register_at paths signals) rs)
widths_are paths signals [] = refl
widths_are paths signals (r ∷ rs) = ap₂ (λ (w : ℕ) (ws : List ℕ). w ∷ ws) (one_width paths signals r) (widths_are paths signals rs)

-- what is so of each signal is so of the one of a number
pub at_signal : (P : ℕ → Register → Type 0) (numbers : List ℕ) (paths : List (List ℕ)) (signals : List Signal) (s count : ℕ)
    → ((x : Signal) → x.instance < count → P (slice_index numbers x.instance) (register_of paths x)) → IsTrue (are_within signals count) → s < length signals
    → P (number_at numbers signals s) (register_at paths signals s)
at_signal P numbers paths [] s count f w h = absurd (omega (arith, h))
at_signal P numbers paths (x ∷ xs) zero count f w h = f x (ltb-true x.instance count (and_left (nat_lt x.instance count) (are_within xs count) w))
at_signal P numbers paths (x ∷ xs) (suc s) count f w h =
    at_signal P numbers paths xs s count f (and_right (nat_lt x.instance count) (are_within xs count) w) (omega (arith, h))

-- what is left from an element on
pub dropped : {A : Type 0} (xs : List A) (i : ℕ) (x : A) → slice_get xs i ≡ Some x → drop i xs ≡ x ∷ drop (i + 1) xs
dropped [] i x e = absurd (none-some x e)
dropped (y ∷ ys) zero x e = ap (λ z. z ∷ ys) (same_Some y x e)
dropped (y ∷ ys) (suc i) x e =
    let more : suc i + 1 ≡ suc (i + 1) = omega arith in
    dropped ys i x e ∙ ap (λ k. x ∷ drop k (y ∷ ys)) (sym more)
