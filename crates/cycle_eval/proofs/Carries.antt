-- Registers one by one, and what their signals have.
use Rattle.std.proofs.Common.{◌≡◌, ℕ, zero, suc, ◌+◌, ◌<◌, List, [], ◌∷◌, ◌++◌, length, map, get_or, drop, append_assoc, sym, ◌∙◌, ap, arith}
use Rattle.bits.specs.declared.Bits.{Bits}
use Rattle.typed_ir.specs.declared.signal.Signal.{Signal as Signal'}
use Rattle.typed_ir.specs.States.{sized_value}
use Rattle.typed_ir.proofs.Lists.{drop_split}
use Rattle.std.proofs.lemmas.List.{map_push}
use Rattle.reg_transform.specs.Beginnings.{initial_in}

pub initial_read : (signals : List Signal') (r : ℕ) (x : Signal') → r < length signals → x ≡ get_or signals r x → x.initial ≡ initial_in signals r
initial_read [] r x h is = absurd (omega (arith, h))
initial_read (y ∷ ys) zero x h is = ap (λ (z : Signal'). z.initial) is
initial_read (y ∷ ys) (suc r) x h is = initial_read ys r x (omega (arith, h)) is

-- one more register written
pub push_step : (f : ℕ → ℕ × ℕ) (rs : List ℕ) (i : ℕ) (old new : List Bits) (b : Bits) → i < length rs → sized_value b ≡ f (get_or rs i 0)
    → new ≡ old ++ b ∷ [] → map sized_value new ++ map f (drop (i + 1) rs) ≡ map sized_value old ++ map f (drop i rs)
push_step f rs i old new b h here e =
    ap (λ zs. map sized_value zs ++ map f (drop (i + 1) rs)) e
    ∙ ap (λ zs. zs ++ map f (drop (i + 1) rs)) (map_push sized_value old b)
    ∙ append_assoc (map sized_value old) (sized_value b ∷ []) (map f (drop (i + 1) rs))
    ∙ ap (λ z. map sized_value old ++ z ∷ map f (drop (i + 1) rs)) here
    ∙ sym (ap (λ zs. map sized_value old ++ map f zs) (drop_split rs i 0 h))
