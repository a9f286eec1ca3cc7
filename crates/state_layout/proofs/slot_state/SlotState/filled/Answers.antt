use Rattle.std.proofs.Common.{◌≡◌, ◌<◌, length, get_or, refl, sym, ap, ◌∙◌, arith}
use Rattle.std.proofs.lemmas.List.{length-map, get_or-map}
use Rattle.std.specs.Prelude.{ℕ}
use Rattle.bits.specs.declared.Bits.{Bits}
use Rattle.state_layout.specs.Slots.{state_widths}
use Rattle.state_layout.proofs.SlotWords.{blank_widths}
use Rattle.state_layout.proofs.Splices.{written_widths}
use Rattle.state_layout.proofs.Views.{width_at, more_filled}
use Rattle.state_layout.proofs.slot_state.SlotState.filled.Goals as goal

pub loop-place-init : goal.loop-place-init
loop-place-init c = record {
  filled = refl;
  alike = ap state_widths c.in_ok-state.ensures ∙ blank_widths c.args.layout.now.value ∙ sym c.requires;
}

pub loop-place-preserved : goal.loop-place-preserved
loop-place-preserved c =
    let s = c.loop-place.state in
    let p = c.loop-place.place in
    let vs = c.args.values.now in
    let b = c.index-values-place.result in
    let listed : p < length vs = c.loop-place-test.true in
    let long : length s ≡ length vs = sym (length-map s (λ (r : ℕ × ℕ). r.0)) ∙ ap length c.loop-place.invariant.alike ∙ length-map vs (λ (x : Bits). x.width) in
    let there : p < length s = omega (arith, listed, long) in
    let own : (get_or s p (0, 0)).0 ≡ b.width =
    sym (width_at s p) ∙ ap (λ ws. get_or ws p 0) c.loop-place.invariant.alike ∙ get_or-map (λ (x : Bits). x.width) vs p b 0 listed ∙ sym (ap (λ (x : Bits). x.width) c.index-values-place.is) in
    record {
      filled = more_filled s c.write.new.self vs p b b there listed c.in_ok-write.ensures.ok c.index-values-place.is c.loop-place.invariant.filled;
      alike = ap state_widths c.in_ok-write.ensures.ok ∙ written_widths s p b.width b.value (0, 0) own ∙ c.loop-place.invariant.alike;
    }
