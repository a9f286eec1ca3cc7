use Rattle.std.proofs.Common.{rules, ◌≡◌, ◌++◌, ◌<◌, ◌≤◌, ◌∙◌, ℕ, List, length, get_or, map, drop, sym, ap, ap₂, subst, arith}
use Rattle.std.specs.Prelude.{IfOk}
use Rattle.std.proofs.Math.ListN.{drop_of_length-le}
use Rattle.std.proofs.lemmas.List.{append-nil, get_or_default}
use Rattle.bits.proofs.Modulo.{small}
use Rattle.bits.specs.declared.Bits.{Bits}
use Rattle.typed_ir.specs.declared.signal.Signal.{Signal}
use Rattle.typed_ir.specs.States.{sized_value}
use Rattle.typed_ir.specs.Views.{widths}
use Rattle.typed_ir.proofs.Lists.{below_read}
use Rattle.state_layout.specs.Words.{width_in}
use Rattle.reg_transform.specs.Beginnings.{initial_in}
use Rattle.state_layout.specs.Slots.{state_widths}
use Rattle.state_layout.proofs.Layouts.{width_read}
use Rattle.reg_transform.specs.States.{paired}
use Rattle.reg_transform.proofs.Values.{pair, widths_same}
use Rattle.cycle_eval.specs.DesignLaws.{paired_widths}
use Rattle.cycle_eval.proofs.Loads.{pairs_of}
use Rattle.cycle_eval.proofs.Carries.{initial_read, push_step}
use Rattle.cycle_eval.proofs.carrying.beginnings.Goals as goal

pub bounds-signals-place : goal.bounds-signals-place
bounds-signals-place c =
    let rs = c.args.registers.now in
    let i = c.loop-register.register-index in
    let listed : get_or rs i 0 < length c.args.signals.now = below_read rs (length c.args.signals.now) i c.requires.there c.loop-register-test.true in
    let same : c.index-place.result ≡ get_or rs i 0 =
    c.index-place.ensures ∙ c.register-item.is ∙ get_or_default rs i c.register-item.result 0 c.loop-register-test.true in
    omega (arith, listed, same)

pub loop-register-preserved : goal.loop-register-preserved
loop-register-preserved c =
    let signals = c.args.signals.now in
    let rs = c.args.registers.now in
    let i = c.loop-register.register-index in
    let f : ℕ → ℕ × ℕ = λ r. (width_in signals r, initial_in signals r) in
    let x = c.index-signals-place.result in
    let r = get_or rs i 0 in
    let at = c.index-place.result in
    let same : at ≡ r = c.index-place.ensures ∙ c.register-item.is ∙ get_or_default rs i c.register-item.result 0 c.loop-register-test.true in
    let listed : r < length signals = below_read rs (length signals) i c.requires.there c.loop-register-test.true in
    let there : at < length signals = omega (arith, listed, same) in
    let here : sized_value c.new.result ≡ f r = ap₂ pair
    (c.new.ensures.width ∙ width_read signals at x there c.index-signals-place.is ∙ ap (width_in signals) same)
    (c.new.ensures.value ∙ small x.initial x.width x.fits ∙ initial_read signals at x there c.index-signals-place.is ∙ ap (initial_in signals) same) in
    push_step f rs i c.loop-register.values.items c.push.new.self.items c.new.result c.loop-register-test.true here c.in_ok-push.ensures.items
    ∙ c.loop-register.invariant

-- what all registers begin with
begun_all : (signals : List Signal) (rs : List ℕ) (items : List Bits) (i : ℕ) → length rs ≤ i
    → map sized_value items ++ map (λ (r : ℕ). (width_in signals r, initial_in signals r)) (drop i rs) ≡ map (λ (r : ℕ). (width_in signals r, initial_in signals r)) rs
    → map sized_value items ≡ paired (map (width_in signals) rs) (map (initial_in signals) rs)
begun_all signals rs items i past is =
    let f : ℕ → ℕ × ℕ = λ r. (width_in signals r, initial_in signals r) in
    sym (append-nil (map sized_value items)) ∙ sym (ap (λ (zs : List ℕ). map sized_value items ++ map f zs) (drop_of_length-le rs past))
    ∙ is ∙ pairs_of (width_in signals) (initial_in signals) rs

pub filled-requires : goal.filled-requires
filled-requires c =
    let signals = c.args.signals.now in
    let rs = c.args.registers.now in
    let items = c.loop-register.values.items in
    ap widths c.deref.ensures.value ∙ widths_same items
    ∙ ap state_widths (begun_all signals rs items c.loop-register.register-index (omega (arith, c.loop-register-test.false)) c.loop-register.invariant)
    ∙ paired_widths (width_in signals) (initial_in signals) rs ∙ sym c.requires.laid

pub returns : goal.returns
returns c =
    let signals = c.args.signals.now in
    let rs = c.args.registers.now in
    let items = c.loop-register.values.items in
    let whole = ap (map sized_value) c.deref.ensures.value
    ∙ begun_all signals rs items c.loop-register.register-index (omega (arith, c.loop-register-test.false)) c.loop-register.invariant in
    subst (λ z. IfOk c.filled.result (λ s. s ≡ z)) whole c.filled.ensures

pub offset_bounds-signals-place : goal.offset_bounds-signals-place
offset_bounds-signals-place c =
    let rs = c.args.registers.now in
    let i = c.loop-register.register-index in
    let listed : get_or rs i 0 < length c.args.signals.now = below_read rs (length c.args.signals.now) i c.requires.there c.loop-register-test.true in
    let same : c.index-place.result ≡ get_or rs i 0 =
    c.index-place.ensures ∙ c.register-item.is ∙ get_or_default rs i c.register-item.result 0 c.loop-register-test.true in
    let within : c.index-place.result < length c.args.signals.now = omega (arith, listed, same) in
    search (rules, within)
