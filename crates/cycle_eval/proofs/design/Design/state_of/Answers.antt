use Rattle.std.proofs.Common.{rules, ◌≡◌, ◌<◌, ◌≤◌, ◌∙◌, ℕ, length, get_or, map, set, refl, sym, ap, arith}
use Rattle.std.proofs.lemmas.List.{get_or-map, take_all}
use Rattle.typed_ir.specs.Cycles.{width_at}
use Rattle.design_steps.specs.Programs.{values_in}
use Rattle.state_layout.specs.Slots.{state_widths}
use Rattle.state_layout.specs.Words.{register_widths}
use Rattle.state_layout.proofs.Splices.{written_widths}
use Rattle.state_layout.proofs.Views.{width_at as state_width}
use Rattle.cycle_eval.specs.Designs.{design_flat}
use Rattle.cycle_eval.proofs.Loads.{pairs_of, rs_few, rs_there, state_few, state_there, written_step}
use Rattle.cycle_eval.proofs.design.Design.state_of.Goals as goal

pub loop-place-init : goal.loop-place-init
loop-place-init c = record { kept = ap state_widths c.in_ok-state.ensures; written = refl }

pub write-requires-clause-there : goal.write-requires-clause-there
write-requires-clause-there c =
    let flat = design_flat c.args.self.now in
    let rs = c.args.self.now.linked.design.registers.items in
    let p = c.loop-place.place in
    let many : c.len-place-end.result ≡ length rs = search (rules, c.len-place-end.ensures) in
    let within : p < length rs = omega (arith, c.loop-place-test.true, many) in
    state_there c.loop-place.state (register_widths flat) p (c.loop-place.invariant.kept ∙ c.requires.fits) (rs_there (width_at flat) rs p within)

pub write-requires-clause-width : goal.write-requires-clause-width
write-requires-clause-width c =
    let flat = design_flat c.args.self.now in
    let rs = c.args.self.now.linked.design.registers.items in
    let p = c.loop-place.place in
    let many : c.len-place-end.result ≡ length rs = search (rules, c.len-place-end.ensures) in
    let within : p < length rs = omega (arith, c.loop-place-test.true, many) in
    ap (λ ws. get_or ws p 0) (c.loop-place.invariant.kept ∙ c.requires.fits) ∙ get_or-map (width_at flat) rs p 0 0 within ∙ sym c.register-value.ensures.width

pub loop-place-preserved : goal.loop-place-preserved
loop-place-preserved c =
    let self = c.args.self.now in
    let flat = design_flat self in
    let rs = self.linked.design.registers.items in
    let p = c.loop-place.place in
    let s = c.loop-place.state in
    let b = c.register-value.result in
    let many : c.len-place-end.result ≡ length rs = search (rules, c.len-place-end.ensures) in
    let within : p < length rs = omega (arith, c.loop-place-test.true, many) in
    let now_widths : state_widths s ≡ register_widths flat = c.loop-place.invariant.kept ∙ c.requires.fits in
    let there : p < length s = state_there s (register_widths flat) p now_widths (rs_there (width_at flat) rs p within) in
    let own : (get_or s p (0, 0)).0 ≡ b.width =
    sym (state_width s p) ∙ ap (λ ws. get_or ws p 0) now_widths ∙ get_or-map (width_at flat) rs p 0 0 within ∙ sym c.register-value.ensures.width in
    let put : c.write.new.self ≡ set s p (b.width, b.value) = c.in_ok-write.ensures.ok in
    record {
      kept = ap state_widths put ∙ written_widths s p b.width b.value (0, 0) own ∙ c.loop-place.invariant.kept;
      written = written_step (width_at flat) (values_in self.program c.args.words.now) rs p s c.write.new.self b.width b.value within there
          c.register-value.ensures.width c.register-value.ensures.value put c.loop-place.invariant.written;
    }

pub returns : goal.returns
returns c =
    let self = c.args.self.now in
    let flat = design_flat self in
    let rs = self.linked.design.registers.items in
    let v = values_in self.program c.args.words.now in
    let p = c.loop-place.place in
    let s = c.loop-place.state in
    let many : c.len-place-end.result ≡ length rs = search (rules, c.len-place-end.ensures) in
    let past : length rs ≤ p = omega (arith, c.loop-place-test.false, many) in
    let now_widths : state_widths s ≡ register_widths flat = c.loop-place.invariant.kept ∙ c.requires.fits in
    let few : length s ≤ p = state_few s (register_widths flat) p now_widths (rs_few (width_at flat) rs p past) in
    sym (take_all p s few) ∙ c.loop-place.invariant.written ∙ ap (map (λ (r : ℕ). (width_at flat r, v r))) (take_all p rs past) ∙ pairs_of (width_at flat) v rs
