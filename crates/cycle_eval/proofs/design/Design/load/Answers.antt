use Rattle.std.proofs.Common.{◌≡◌, ◌+◌, ◌-◌, ◌<◌, ◌∙◌, ℕ, length, get_or, drop, refl, sym, ap, subst, arith}
use Rattle.std.proofs.lemmas.List.{length-map}
use Rattle.typed_ir.specs.Cycles.{fill, width_at}
use Rattle.design_steps.specs.Programs.{values_in}
use Rattle.reg_transform.specs.States.{state_values}
use Rattle.cycle_eval.specs.Designs.{design_flat}
use Rattle.cycle_eval.proofs.Loads.{all_filled, fill_step}
use Rattle.cycle_eval.proofs.design.Design.load.Goals as goal

pub loop-left-preserved : goal.loop-left-preserved
loop-left-preserved c =
    let self = c.args.self.now in
    let rs = self.linked.design.registers.items in
    let from = c.args.from.now in
    let xs = state_values from in
    let i = c.loop-left.left - 1 in
    let start = values_in self.program c.args.words.now in
    let env = values_in self.program c.loop-left.words in
    let within : i < length rs = omega (arith, c.loop-left.invariant.within, c.loop-left-test.true) in
    let more : i + 1 ≡ c.loop-left.left = omega (arith, c.loop-left-test.true) in
    let count : length xs ≡ length rs =
    length-map from (λ (p : ℕ × ℕ). p.1) ∙ sym (length-map from (λ (p : ℕ × ℕ). p.0)) ∙ ap length c.requires.fits ∙ length-map rs (width_at (design_flat self)) in
    record {
      within = omega (arith, within);
      value = c.load_register.ensures.value
          ∙ fill_step rs xs i start env (get_or rs i 0) (get_or xs i 0) within (omega (arith, within, count)) refl refl
          (subst (λ k. env ≡ fill (drop k rs) (drop k xs) start) (sym more) c.loop-left.invariant.value);
      held = λ before. c.load_register.ensures.held (c.loop-left.invariant.held before);
    }

pub returns-clause-value : goal.returns-clause-value
returns-clause-value c =
    let self = c.args.self.now in
    all_filled c.loop-left.left self.linked.design.registers.items (state_values c.args.from.now) (values_in self.program c.args.words.now)
    (values_in self.program c.loop-left.words) (omega (arith, c.loop-left-test.false)) c.loop-left.invariant.value
