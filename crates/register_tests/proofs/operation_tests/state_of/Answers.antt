use Rattle.std.proofs.Common.{◌≡◌, ◌≤◌, ◌+◌, ◌++◌, ◌∙◌, ℕ, List, [], ◌∷◌, append_assoc, length, map, drop, sym, ap, arith}
use Rattle.std.specs.Prelude.{slice_get, Some}
use Rattle.std.proofs.Math.ListN.{drop_of_length-le}
use Rattle.std.proofs.lemmas.List.{append-nil, length-map, map_push}
use Rattle.std.proofs.lemmas.Result.{IfOk-weaker}
use Rattle.bits.specs.declared.Bits.{Bits}
use Rattle.typed_ir.specs.Paths.{paths_of}
use Rattle.typed_ir.specs.States.{sized_value}
use Rattle.typed_ir.specs.Views.{widths}
use Rattle.reg_transform.specs.Registers.{Register, widths_of}
use Rattle.reg_transform.specs.Regs.{register_at, registers_in}
use Rattle.state_layout.specs.Slots.{state_widths}
use Rattle.reg_transform.proofs.Elements.{dropped}
use Rattle.reg_transform.proofs.Values.{widths_same}
use Rattle.register_tests.proofs.operation_tests.state_of.Goals as goal

-- one more width
widths_step : (rs : List Register) (i : ℕ) (r : Register) (was now : List Bits) (b : Bits) → slice_get rs i ≡ Some r → b.width ≡ r.width → now ≡ was ++ b ∷ []
    → state_widths (map sized_value now) ++ widths_of (drop (i + 1) rs) ≡ state_widths (map sized_value was) ++ widths_of (drop i rs)
widths_step rs i r was now b at here e =
    let rest = widths_of (drop (i + 1) rs) in
    let before = state_widths (map sized_value was) in
    ap (λ zs. state_widths (map sized_value zs) ++ rest) e
    ∙ ap (λ zs. state_widths zs ++ rest) (map_push sized_value was b)
    ∙ ap (λ zs. zs ++ rest) (map_push (λ (p : ℕ × ℕ). p.0) (map sized_value was) (sized_value b))
    ∙ append_assoc before (b.width ∷ []) rest
    ∙ ap (λ w. before ++ w ∷ rest) here
    ∙ sym (ap (λ zs. before ++ widths_of zs) (dropped rs i r at))

pub loop-place-preserved : goal.loop-place-preserved
loop-place-preserved c =
    widths_step (registers_in c.args.layout.now.regs) c.loop-place.place _ c.loop-place.state.items c.push.new.self.items c.new.result c.signal_at-signal.ensures.register
    c.new.ensures.width c.in_ok-push.ensures.items
    ∙ c.loop-place.invariant

-- the widths of all
all_widths : (rs : List Register) (items : List Bits) (i : ℕ) → length rs ≤ i → state_widths (map sized_value items) ++ widths_of (drop i rs) ≡ widths_of rs
    → state_widths (map sized_value items) ≡ widths_of rs
all_widths rs items i past is =
    let before = state_widths (map sized_value items) in
    sym (append-nil before) ∙ sym (ap (λ (zs : List Register). before ++ widths_of zs) (drop_of_length-le rs past)) ∙ is

pub filled-requires : goal.filled-requires
filled-requires c =
    let regs = c.args.layout.now.regs in
    let rs = registers_in regs in
    let paths = paths_of regs.instances.now.rows.items in
    let past : length rs ≤ c.loop-place.place = omega (arith, length-map regs.registers.now (register_at paths regs.signals.now), c.loop-place-test.false) in
    ap widths c.deref.ensures.value
    ∙ widths_same c.loop-place.state.items
    ∙ all_widths rs c.loop-place.state.items c.loop-place.place past c.loop-place.invariant
    ∙ sym c.args.layout.now.laid

pub returns : goal.returns
returns c =
    let regs = c.args.layout.now.regs in
    let rs = registers_in regs in
    let items = c.loop-place.state.items in
    let paths = paths_of regs.instances.now.rows.items in
    let past : length rs ≤ c.loop-place.place = omega (arith, length-map regs.registers.now (register_at paths regs.signals.now), c.loop-place-test.false) in
    let whole : state_widths (map sized_value c.deref.result.now) ≡ widths_of rs =
    ap (λ xs. state_widths (map sized_value xs)) c.deref.ensures.value ∙ all_widths rs items c.loop-place.place past c.loop-place.invariant in
    IfOk-weaker c.filled.result (λ s. s ≡ map sized_value c.deref.result.now) (λ s. state_widths s ≡ widths_of rs) (λ s e. ap state_widths e ∙ whole) c.filled.ensures
