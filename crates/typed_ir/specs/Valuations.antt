-- Valuations: each signal's bits as one whole number, and the bits one by one.
use Rattle.std.specs.Prelude.{◌≡◌, ℕ, ◌+◌, Bool, true, false, ◌==◌, ◌&&◌, ◌||◌, nat_le, nat_lt, List, [], ◌∷◌, if◌then◌else◌}
use Rattle.std.specs.Int.{bit_at}
use Rattle.bits.specs.Runs.{replaced}
use Rattle.typed_ir.specs.declared.span.Span.{Span}

-- what each signal has, by its number; a signal that isn't there has 0
abbrev pub Valuation : Type 0
Valuation = ℕ → ℕ

-- some bits, each of a signal
abbrev pub Places : Type 0
Places = ℕ → ℕ → Bool

-- the bit of a signal
abbrev pub look : Valuation → ℕ → ℕ → ℕ
look env s i = bit_at (env s) i

-- the valuation with another value of one signal
abbrev pub put : Valuation → ℕ → ℕ → Valuation
put env s x = λ t. if t == s then x else env t

abbrev pub nowhere : Places
nowhere = λ s i. false

-- the bits of a span
abbrev pub within : Span → Places
within p = λ s i. (s == p.signal) && (nat_le p.low i && nat_lt i (p.low + p.width))

abbrev pub any_within : List Span → Places
any_within [] = λ s i. false
any_within (p ∷ ps) = λ s i. within p s i || any_within ps s i

-- the valuation with other bits of one signal: the lowest ones of x
abbrev pub placed : Span → ℕ → Valuation → Valuation
placed p x env = put env p.signal (replaced (env p.signal) p.low p.width x)

-- two valuations have the same bits at these places
abbrev pub Same : Places → Valuation → Valuation → Type 0
Same places v w = (s i : ℕ) → places s i ≡ true → look v s i ≡ look w s i
