use Rattle.std.proofs.Common.{◌≡◌, ◌<◌, ◌^◌, ◌∙◌, length, get_or, sym, ap, ap₂, subst, arith}
use Rattle.std.proofs.lemmas.List.{get_or_default, get_or-map}
use Rattle.typed_ir.specs.Valuations.{put}
use Rattle.typed_ir.specs.Cycles.{width_at}
use Rattle.typed_ir.proofs.Lists.{below_read}
use Rattle.design_steps.specs.Programs.{values_in}
use Rattle.state_layout.specs.Words.{register_widths}
use Rattle.cycle_eval.specs.Designs.{design_flat}
use Rattle.cycle_eval.proofs.Loads.{got_width, got_value, rs_there, state_there}
use Rattle.cycle_eval.proofs.Widths.{width_is}
use Rattle.cycle_eval.proofs.design.Design.load_register.Goals as goal

pub read-value-requires : goal.read-value-requires
read-value-requires c =
    let self = c.args.self.now in
    let flat = design_flat self in
    let rs = self.linked.design.registers.items in
    state_there c.args.from.now (register_widths flat) c.args.place c.requires.fits (rs_there (width_at flat) rs c.args.place c.requires.there)

pub put-requires-clause-there : goal.put-requires-clause-there
put-requires-clause-there c =
    let design = c.args.self.now.linked.design in
    let rs = design.registers.items in
    let i = c.args.place in
    let listed = below_read rs (length design.signals.items) i design.registers_there c.requires.there in
    let is : c.index-register.result.now ≡ get_or rs i 0 =
    c.index-register.ensures ∙ get_or_default rs i c.index-register.result.now 0 c.requires.there in
    omega (arith, listed, is)

pub put-requires-clause-fits : goal.put-requires-clause-fits
put-requires-clause-fits c =
    let self = c.args.self.now in
    let flat = design_flat self in
    let l = self.linked in
    let rs = l.design.registers.items in
    let from = c.args.from.now in
    let i = c.args.place in
    let x = c.read-value.result in
    let r = c.index-register.result.now in
    let is : r ≡ get_or rs i 0 = c.index-register.ensures ∙ get_or_default rs i r 0 c.requires.there in
    subst (λ w. x.value < 2 ^ w)
    (sym (got_width from i (x.width, x.value) c.read-value.ensures) ∙ ap (λ ws. get_or ws i 0) c.requires.fits
    ∙ get_or-map (width_at flat) rs i 0 0 c.requires.there ∙ ap (width_at flat) (sym is) ∙ width_is l r) x.fits

pub returns-clause-value : goal.returns-clause-value
returns-clause-value c =
    let self = c.args.self.now in
    let rs = self.linked.design.registers.items in
    let i = c.args.place in
    let x = c.read-value.result in
    let r = c.index-register.result.now in
    let is : r ≡ get_or rs i 0 = c.index-register.ensures ∙ get_or_default rs i r 0 c.requires.there in
    c.put.ensures.value
    ∙ ap₂ (λ s n. put (values_in self.program c.args.words.now) s n) is (sym (got_value c.args.from.now i (x.width, x.value) c.read-value.ensures))
