-- Registers by flags that are known of the signals of a module alone.
use Rattle.std.proofs.Common.{◌≡◌, ◌<◌, ℕ, zero, suc, ◌&&◌, Bool, false, nat_lt, List, [], ◌∷◌, filter, length, cond, refl, ◌∙◌, ap, arith, lt-ltb}
use Rattle.std.specs.Prelude.{slice_get, slice_index_or}
use Rattle.gen_unroll.specs.Numbers.{SignalTable}
use Rattle.gen_unroll.specs.Signals.{NamedSignal}
use Rattle.gen_unroll.specs.UnitLists.{is_register_at, is_register, registers}
use Rattle.gen_unroll.specs.UnitReaches.{is_settled}

-- what is no signal is no register
known : (xs : List NamedSignal) (k : ℕ) (a b : Bool) → (k < length xs → a ≡ b) → is_register_at a (slice_get xs k) ≡ is_register_at b (slice_get xs k)
known [] k a b h = refl
known (x ∷ xs) zero a b h = ap (λ (t : Bool). is_register_at t (slice_get (x ∷ xs) 0)) (h (omega arith))
known (x ∷ xs) (suc k) a b h = known xs k a b (λ lt. h (omega (arith, lt)))

same : (f g : ℕ → Bool) (ks : List ℕ) → ((k : ℕ) → f k ≡ g k) → filter f ks ≡ filter g ks
same f g [] h = refl
same f g (k ∷ ks) h =
    ap (λ (t : Bool). cond t (k ∷ filter f ks) (filter f ks)) (h k) ∙ ap (λ (l : List ℕ). cond (g k) (k ∷ l) l) (same f g ks h)

pub same_registers : (flags : List Bool) (by : ℕ → Bool) (t : SignalTable) → ((s : ℕ) → slice_index_or flags s false ≡ (nat_lt s (length t.signals) && by s))
    → registers (is_settled flags) t ≡ registers by t
same_registers flags by t h =
    same (is_register (is_settled flags) t.signals) (is_register by t.signals) t.declared (λ k. known t.signals k (is_settled flags k) (by k)
    (λ lt. h k ∙ ap (λ (z : Bool). z && by k) (lt-ltb k (length t.signals) lt)))
