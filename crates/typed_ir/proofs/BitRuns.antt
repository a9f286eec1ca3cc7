-- Runs of bits of a number.
use Rattle.std.proofs.Common.{◌≡◌, ℕ, ◌+◌, ◌-◌, true, false, ◌&&◌, ◌==◌, nat_le, nat_lt, sym, ◌∙◌, ap}
use Rattle.std.specs.Int.{bit_at}
use Rattle.std.proofs.lemmas.Bool.{eqb-true, leb-true, leb-false, ltb-true, ltb-false, cond-true, cond-false}
use Rattle.bits.specs.Runs.{replaced}
use Rattle.bits.proofs.Runs.{replaced-below, replaced-inside, replaced-above}
use Rattle.typed_ir.specs.declared.span.Span.{Span}
use Rattle.typed_ir.specs.Valuations.{Valuation, look, placed, within}
use Rattle.typed_ir.proofs.Cases.{and_left, and_right, and_cases}

-- a bit within the span is the value's
pub placed-inside : (p : Span) (x : ℕ) (env : Valuation) (s i : ℕ) → within p s i ≡ true → look (placed p x env) s i ≡ bit_at x (i - p.low)
placed-inside p x env s i h =
    let here : (s == p.signal) ≡ true = and_left (s == p.signal) (nat_le p.low i && nat_lt i (p.low + p.width)) h in
    let run : (nat_le p.low i && nat_lt i (p.low + p.width)) ≡ true = and_right (s == p.signal) (nat_le p.low i && nat_lt i (p.low + p.width)) h in
    ap (λ z. bit_at z i) (cond-true (s == p.signal) (replaced (env p.signal) p.low p.width x) (env s) here)
    ∙ replaced-inside (env p.signal) p.low p.width x i
    (leb-true p.low i (and_left (nat_le p.low i) (nat_lt i (p.low + p.width)) run))
    (ltb-true i (p.low + p.width) (and_right (nat_le p.low i) (nat_lt i (p.low + p.width)) run))

-- any other stays
pub placed-outside : (p : Span) (x : ℕ) (env : Valuation) (s i : ℕ) → within p s i ≡ false → look (placed p x env) s i ≡ look env s i
placed-outside p x env s i h =
    and_cases (s == p.signal) (nat_le p.low i && nat_lt i (p.low + p.width)) h
    (λ other. ap (λ z. bit_at z i) (cond-false (s == p.signal) (replaced (env p.signal) p.low p.width x) (env s) other))
    (λ here out.
    ap (λ z. bit_at z i) (cond-true (s == p.signal) (replaced (env p.signal) p.low p.width x) (env s) here)
    ∙ and_cases (nat_le p.low i) (nat_lt i (p.low + p.width)) out
    (λ low. replaced-below (env p.signal) p.low p.width x i (leb-false p.low i low))
    (λ low high. replaced-above (env p.signal) p.low p.width x i (ltb-false i (p.low + p.width) high))
    ∙ ap (λ t. look env t i) (sym (eqb-true s p.signal here)))
