use Rattle.std.proofs.Common.{◌≡◌, ◌<◌, ◌∙◌, ℕ, List, length, get_or, Some, sym, ap, arith}
use Rattle.std.proofs.lemmas.Bool.{eqb-true, eqb-false}
use Rattle.std.proofs.lemmas.List.{get_or_default}
use Rattle.typed_ir.specs.Cycles.{width_at}
use Rattle.typed_ir.proofs.Lists.{below_read}
use Rattle.cycle_eval.specs.Designs.{design_flat}
use Rattle.cycle_eval.specs.Inputs.{name_at}
use Rattle.cycle_eval.proofs.Driving.{read_name, signal_width, width_here, width_step}
use Rattle.cycle_eval.proofs.design.Design.input_width.Goals as goal

pub index-signal-requires : goal.index-signal-requires
index-signal-requires c =
    let design = c.args.self.now.linked.design in
    let i = c.loop-input.input-index in
    let within : i < length design.inputs.items = omega (arith, c.loop-input-test.true, ap length c.deref-input-items.ensures.value) in
    let is : c.index-place.result ≡ get_or design.inputs.items i 0 =
    c.index-place.ensures ∙ c.input-item.is ∙ get_or_default c.deref-input-items.result.now i c.input-item.result 0 c.loop-input-test.true
    ∙ ap (λ (ss : List ℕ). get_or ss i 0) c.deref-input-items.ensures.value in
    omega (arith, is, below_read design.inputs.items (length design.signals.items) i design.inputs_there within)

-- the first one of that name
pub returns-then-eq : goal.returns-then-eq
returns-then-eq c =
    let design = c.args.self.now.linked.design in
    let flat = design_flat c.args.self.now in
    let i = c.loop-input.input-index in
    let s = c.index-place.result in
    let x = c.index-signal.result.now in
    let within : i < length design.inputs.items = omega (arith, c.loop-input-test.true, ap length c.deref-input-items.ensures.value) in
    let is : s ≡ get_or design.inputs.items i 0 =
    c.index-place.ensures ∙ c.input-item.is ∙ get_or_default c.deref-input-items.result.now i c.input-item.result 0 c.loop-input-test.true
    ∙ ap (λ (ss : List ℕ). get_or ss i 0) c.deref-input-items.ensures.value in
    let there : s < length design.signals.items = omega (arith, is, below_read design.inputs.items (length design.signals.items) i design.inputs_there within) in
    let name : name_at flat (get_or design.inputs.items i 0) ≡ c.args.name.0 =
    ap (name_at flat) (sym is) ∙ sym (read_name design s x there c.index-signal.ensures) ∙ eqb-true x.name.0 c.args.name.0 (sym c.eq.ensures ∙ c.if-eq.true) in
    ap (λ (w : ℕ). Some w) (signal_width design s x there c.index-signal.ensures ∙ ap (width_at flat) is)
    ∙ sym (width_here flat design.inputs.items i c.args.name.0 within name)
    ∙ c.loop-input.invariant

-- another name
pub loop-input-preserved : goal.loop-input-preserved
loop-input-preserved c =
    let design = c.args.self.now.linked.design in
    let flat = design_flat c.args.self.now in
    let i = c.loop-input.input-index in
    let s = c.index-place.result in
    let x = c.index-signal.result.now in
    let within : i < length design.inputs.items = omega (arith, c.loop-input-test.true, ap length c.deref-input-items.ensures.value) in
    let is : s ≡ get_or design.inputs.items i 0 =
    c.index-place.ensures ∙ c.input-item.is ∙ get_or_default c.deref-input-items.result.now i c.input-item.result 0 c.loop-input-test.true
    ∙ ap (λ (ss : List ℕ). get_or ss i 0) c.deref-input-items.ensures.value in
    let there : s < length design.signals.items = omega (arith, is, below_read design.inputs.items (length design.signals.items) i design.inputs_there within) in
    let name : x.name.0 ≡ name_at flat (get_or design.inputs.items i 0) = read_name design s x there c.index-signal.ensures ∙ ap (name_at flat) is in
    sym (width_step flat design.inputs.items i c.args.name.0 within
    (λ same. eqb-false x.name.0 c.args.name.0 (sym c.eq.ensures ∙ c.if-eq.false) (name ∙ same)))
    ∙ c.loop-input.invariant
