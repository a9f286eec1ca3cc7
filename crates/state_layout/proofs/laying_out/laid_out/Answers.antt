use Rattle.std.proofs.Common.{rules, ◌≡◌, ◌<◌, ◌++◌, ◌∷◌, [], ◌∙◌, length, map, get_or, refl, arith}
use Rattle.std.proofs.lemmas.List.{get_or_default}
use Rattle.typed_ir.proofs.Lists.{below_read}
use Rattle.state_layout.specs.Words.{words_of, width_in}
use Rattle.state_layout.proofs.Layouts.{more_widths, where_handed_on, too_many_all}
use Rattle.state_layout.proofs.laying_out.laid_out.Goals as goal

pub bounds-signals-place : goal.bounds-signals-place
bounds-signals-place c =
    let rs = c.args.registers.now in
    let i = c.loop-register.register-index in
    let listed : get_or rs i 0 < length c.args.signals.now = below_read rs (length c.args.signals.now) i c.requires c.loop-register-test.true in
    let same : c.index-place.result ≡ get_or rs i 0 = c.index-place.ensures ∙ c.register-item.is ∙ get_or_default rs i c.register-item.result 0 c.loop-register-test.true in
    omega (arith, listed, same)

pub offset_bounds-signals-place : goal.offset_bounds-signals-place
offset_bounds-signals-place c =
    let rs = c.args.registers.now in
    let i = c.loop-register.register-index in
    let listed : get_or rs i 0 < length c.args.signals.now = below_read rs (length c.args.signals.now) i c.requires c.loop-register-test.true in
    let same : c.index-place.result ≡ get_or rs i 0 = c.index-place.ensures ∙ c.register-item.is ∙ get_or_default rs i c.register-item.result 0 c.loop-register-test.true in
    let within : c.index-place.result < length c.args.signals.now = omega (arith, listed, same) in
    search (rules, within)

pub returns-in_err-add-clause-refused : goal.returns-in_err-add-clause-refused
returns-in_err-add-clause-refused c =
    let signals = c.args.signals.now in
    let rs = c.args.registers.now in
    let i = c.loop-register.register-index in
    let width = c.index-signals-place.result.width in
    let listed : get_or rs i 0 < length signals = below_read rs (length signals) i c.requires c.loop-register-test.true in
    let same : c.index-place.result ≡ get_or rs i 0 = c.index-place.ensures ∙ c.register-item.is ∙ get_or_default rs i c.register-item.result 0 c.loop-register-test.true in
    let within : c.index-place.result < length signals = omega (arith, listed, same) in
    let widths = more_widths signals rs c.loop-register.layout (c.loop-register.layout ++ width ∷ []) i width c.index-place.result 0 c.index-signals-place.result
    c.loop-register.invariant.so_far refl c.loop-register-test.true same within c.index-signals-place.is refl in
    where_handed_on c.from_residual.result c.in_err-add.field-0.0 (65536 < words_of (c.loop-register.layout ++ width ∷ [])) (65536 < words_of (map (width_in signals) rs)) c.from_residual.ensures.1
    (too_many_all (width_in signals) rs (c.loop-register.layout ++ width ∷ []) i widths) c.in_err-add.ensures.refused

pub loop-register-preserved : goal.loop-register-preserved
loop-register-preserved c =
    let signals = c.args.signals.now in
    let rs = c.args.registers.now in
    let i = c.loop-register.register-index in
    let width = c.index-signals-place.result.width in
    let listed : get_or rs i 0 < length signals = below_read rs (length signals) i c.requires c.loop-register-test.true in
    let same : c.index-place.result ≡ get_or rs i 0 = c.index-place.ensures ∙ c.register-item.is ∙ get_or_default rs i c.register-item.result 0 c.loop-register-test.true in
    let within : c.index-place.result < length signals = omega (arith, listed, same) in
    record {
      so_far = more_widths signals rs c.loop-register.layout c.add.new.self i width c.index-place.result 0 c.index-signals-place.result
          c.loop-register.invariant.so_far c.in_ok-add.ensures.ok c.loop-register-test.true same within c.index-signals-place.is refl;
      few = c.in_ok-add.ensures.few;
    }
