use Rattle.std.proofs.Common.{◌≡◌, ◌<◌, ◌%◌, ◌^◌, ◌∙◌, length, get_or, ap, ap₂, subst, arith}
use Rattle.std.specs.Prelude.{slice_index}
use Rattle.std.proofs.lemmas.List.{get_or_default}
use Rattle.stimulus.specs.Rows.{value_in}
use Rattle.typed_ir.specs.Valuations.{put}
use Rattle.typed_ir.specs.Cycles.{width_at}
use Rattle.typed_ir.specs.Flats.{signal_widths}
use Rattle.typed_ir.proofs.Lists.{below_read}
use Rattle.design_steps.specs.Programs.{values_in}
use Rattle.state_layout.proofs.Layouts.{width_read}
use Rattle.cycle_eval.specs.Designs.{design_flat}
use Rattle.cycle_eval.specs.Inputs.{name_at}
use Rattle.cycle_eval.proofs.Driving.{read_name, signal_width}
use Rattle.cycle_eval.proofs.InputRows.{given_at}
use Rattle.cycle_eval.proofs.design.Design.put_input.Goals as goal

pub index-signal-requires : goal.index-signal-requires
index-signal-requires c =
    let design = c.args.self.now.linked.design in
    let i = c.args.place in
    let listed = below_read design.inputs.items (length design.signals.items) i design.inputs_there c.requires.there in
    let is : c.index-number.result ≡ get_or design.inputs.items i 0 =
    c.index-number.ensures ∙ c.index-input.ensures ∙ get_or_default design.inputs.items i c.index-input.result.now 0 c.requires.there in
    omega (arith, listed, is)

pub put-requires-clause-there : goal.put-requires-clause-there
put-requires-clause-there c =
    let design = c.args.self.now.linked.design in
    let i = c.args.place in
    let listed = below_read design.inputs.items (length design.signals.items) i design.inputs_there c.requires.there in
    let is : c.index-input.result.now ≡ get_or design.inputs.items i 0 =
    c.index-input.ensures ∙ get_or_default design.inputs.items i c.index-input.result.now 0 c.requires.there in
    omega (arith, listed, is)

pub put-requires-clause-fits : goal.put-requires-clause-fits
put-requires-clause-fits c =
    let design = c.args.self.now.linked.design in
    let i = c.args.place in
    let s = c.index-number.result in
    let x = c.index-signal.result.now in
    let listed = below_read design.inputs.items (length design.signals.items) i design.inputs_there c.requires.there in
    let is : s ≡ get_or design.inputs.items i 0 =
    c.index-number.ensures ∙ c.index-input.ensures ∙ get_or_default design.inputs.items i c.index-input.result.now 0 c.requires.there in
    let there : s < length design.signals.items = omega (arith, listed, is) in
    subst (λ w. c.new-value.result.value < 2 ^ w)
    (c.new-value.ensures.width ∙ width_read design.signals.items s x there c.index-signal.ensures
    ∙ ap (λ t. slice_index (signal_widths design.signals.items) t) c.index-number.ensures) c.new-value.result.fits

pub returns-clause-value : goal.returns-clause-value
returns-clause-value c =
    let self = c.args.self.now in
    let design = self.linked.design in
    let flat = design_flat self in
    let row = c.args.row.now in
    let i = c.args.place in
    let s = c.index-number.result in
    let x = c.index-signal.result.now in
    let listed = below_read design.inputs.items (length design.signals.items) i design.inputs_there c.requires.there in
    let own : c.index-input.result.now ≡ get_or design.inputs.items i 0 =
    c.index-input.ensures ∙ get_or_default design.inputs.items i c.index-input.result.now 0 c.requires.there in
    let is : s ≡ get_or design.inputs.items i 0 = c.index-number.ensures ∙ own in
    let there : s < length design.signals.items = omega (arith, listed, is) in
    let name : x.name.0 ≡ name_at flat s = read_name design s x there c.index-signal.ensures in
    let width : x.width ≡ width_at flat s = signal_width design s x there c.index-signal.ensures in
    let value : c.new-value.result.value ≡ value_in row (name_at flat s) % 2 ^ width_at flat s =
    c.new-value.ensures.value ∙ ap₂ (λ n w. n % 2 ^ w) (c.get.ensures ∙ ap (value_in row) name) width in
    c.put.ensures.value
    ∙ ap₂ (λ t n. put (values_in self.program c.args.words.now) t n) own (value ∙ given_at flat row i s c.requires.there is)
