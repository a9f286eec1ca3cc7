use Rattle.std.proofs.Common.{◌≡◌, ◌∙◌, ◌<◌, ◌≤◌, ◌/◌, ◌*◌, ◌^◌, ℕ, ltb, eqb, sym, arith}
use Rattle.std.proofs.lemmas.Bool.{lt-ltb, ltb-false, ltb-true, eq-eqb, ne_eqb, le-leb}
use Rattle.std.proofs.Math.Nat.{div-eq_of_lt, div-lt_iff_lt-mul}
use Rattle.std.proofs.Math.Pow.{pow_mono}
use Rattle.std.proofs.lemmas.Nat.{pow_pos}
use Rattle.typed_ir.proofs.Cases.{by_cases}
use Rattle.live_session.proofs.setting.fits.Goals as goal

shifted : (value width : ℕ) → eqb (value / 2 ^ width) 0 ≡ ltb value (2 ^ width)
shifted value width =
    by_cases (ltb value (2 ^ width))
    (λ yes. eq-eqb (value / 2 ^ width) 0 (div-eq_of_lt (ltb-true value (2 ^ width) yes)) ∙ sym yes)
    (λ no. ne_eqb (value / 2 ^ width) 0 (λ zero_is.
    let high : 2 ^ width ≤ value = ltb-false value (2 ^ width) no in
    let low : value < 1 * 2 ^ width = (div-lt_iff_lt-mul {x = value} {y = 1} (pow_pos width)).0 (omega (arith, zero_is)) in
    omega (arith, high, low)) ∙ sym no)

pub returns-then-width-ge128 : goal.returns-then-width-ge128
returns-then-width-ge128 c =
    let wide : 2 ^ 128 ≤ 2 ^ c.args.width = pow_mono c.if-width-ge128.true in
    le-leb 128 c.args.width c.if-width-ge128.true
    ∙ sym (lt-ltb c.args.value (2 ^ c.args.width) (omega (arith, wide, c.ranges.value.fits)))

pub returns-else-width-ge128 : goal.returns-else-width-ge128
returns-else-width-ge128 c = shifted c.args.value c.args.width
