use Rattle.std.proofs.Common.{◌≡◌, ◌<◌, ◌^◌, ◌∙◌, length, get_or, sym, ap, subst, arith}
use Rattle.std.specs.Prelude.{slice_index}
use Rattle.std.proofs.lemmas.List.{get_or_default}
use Rattle.bits.proofs.Modulo.{small}
use Rattle.typed_ir.specs.Cycles.{width_at}
use Rattle.typed_ir.specs.Flats.{signal_widths}
use Rattle.typed_ir.proofs.Lists.{below_read}
use Rattle.design_steps.specs.Programs.{values_in}
use Rattle.state_layout.proofs.Layouts.{width_read}
use Rattle.cycle_eval.specs.Designs.{design_flat}
use Rattle.cycle_eval.proofs.Driving.{signal_width}
use Rattle.cycle_eval.proofs.design.Design.register.Goals as goal

pub index-signal-requires : goal.index-signal-requires
index-signal-requires c =
    let design = c.args.self.now.linked.design in
    let rs = design.registers.items in
    let i = c.args.place in
    let listed = below_read rs (length design.signals.items) i design.registers_there c.requires.there in
    let is : c.index-number.result ≡ get_or rs i 0 =
    c.index-number.ensures ∙ c.index-register.ensures ∙ get_or_default rs i c.index-register.result.now 0 c.requires.there in
    omega (arith, listed, is)

pub returns-clause-width : goal.returns-clause-width
returns-clause-width c =
    let self = c.args.self.now in
    let design = self.linked.design in
    let rs = design.registers.items in
    let i = c.args.place in
    let s = c.index-number.result in
    let listed = below_read rs (length design.signals.items) i design.registers_there c.requires.there in
    let is : s ≡ get_or rs i 0 =
    c.index-number.ensures ∙ c.index-register.ensures ∙ get_or_default rs i c.index-register.result.now 0 c.requires.there in
    let there : s < length design.signals.items = omega (arith, listed, is) in
    c.new.ensures.width ∙ signal_width design s c.index-signal.result.now there c.index-signal.ensures ∙ ap (width_at (design_flat self)) is

pub returns-clause-value : goal.returns-clause-value
returns-clause-value c =
    let self = c.args.self.now in
    let design = self.linked.design in
    let rs = design.registers.items in
    let i = c.args.place in
    let s = c.index-number.result in
    let x = c.index-signal.result.now in
    let own : c.index-register.result.now ≡ get_or rs i 0 = c.index-register.ensures ∙ get_or_default rs i c.index-register.result.now 0 c.requires.there in
    let listed = below_read rs (length design.signals.items) i design.registers_there c.requires.there in
    let there : s < length design.signals.items = omega (arith, listed, own, c.index-number.ensures) in
    let here : c.index-register.result.now < length design.signals.items = omega (arith, listed, own) in
    let word = c.value-word.result in
    let fits : word < 2 ^ x.width =
    subst (λ w. word < 2 ^ w)
    (ap (λ t. slice_index (signal_widths design.signals.items) t) (sym c.index-number.ensures) ∙ sym (width_read design.signals.items s x there c.index-signal.ensures))
    (c.value-word.ensures.fits c.requires.held here) in
    c.new.ensures.value ∙ small word x.width fits ∙ c.value-word.ensures.value ∙ ap (values_in self.program c.args.words.now) own
