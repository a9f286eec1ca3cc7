use Rattle.std.proofs.Common.{◌≡◌, ◌≤◌, ◌+◌, ◌-◌, ◌*◌, ◌∙◌, map, sym, ap, subst, refl, inl, inr, eq-or-lt_of_le, arith}
use Rattle.std.proofs.Math.Nat.{add-mul}
use Rattle.machine.specs.Rows.{between}
use Rattle.typed_ir.specs.Cycles.{seg, input}
use Rattle.design_steps.specs.Programs.{IsAt, values_in}
use Rattle.cycle_eval.specs.Designs.{design_flat, work_of}
use Rattle.cycle_eval.specs.Inputs.{row_values}
use Rattle.cycle_eval.specs.Kits.{driven}
use Rattle.cycle_eval.proofs.Driving.{driven_stretch, nothing_between}
use Rattle.cycle_eval.proofs.design.Design.run.Goals as goal

pub loop-at-init : goal.loop-at-init
loop-at-init g c = record {
  from = omega arith;
  within = c.requires.covers.rises;
  ready = λ state inputs ready start. (inputs, subst (λ s. IsAt c.args.self.now.program c.args.self.now.linked s inputs c.args.words.now) (sym start) ready);
  value = λ state inputs ready start. ap (driven (design_flat c.args.self.now) (between c.args.rows.now c.args.a c.args.b)) start;
  taken = let none : c.args.a - c.args.a ≡ 0 = omega arith in omega (arith, ap (λ k. k * work_of c.args.self.now) none);
}

pub loop-at-preserved : goal.loop-at-preserved
loop-at-preserved g c =
    let self = c.args.self.now in
    let flat = design_flat self in
    let rs = self.linked.design.registers.items in
    let row = c.stretch_at-stretch.result.row.now in
    let at = c.loop-at.at in
    let end = c.earlier-end.result in
    let b = c.args.b in
    let n = end - at in
    let h = c.loop-at.invariant in
    let now = map (values_in self.program c.loop-at.words) rs in
    let upto : at ≤ end =
    elim (eq-or-lt_of_le c.earlier-end.ensures.second) [
      | inl same ↦ omega (arith, same, h.within)
      | inr less ↦ omega (arith, c.earlier-end.ensures.either less, c.stretch_at-stretch.ensures.after)
    ] in
    let count : at + n ≡ end = omega (arith, upto) in
    let cycles : end - c.args.a ≡ (at - c.args.a) + n = omega (arith, upto, h.from) in
    let steps : (end - c.args.a) * work_of self ≡ (at - c.args.a) * work_of self + n * work_of self =
    ap (λ k. k * work_of self) cycles ∙ add-mul (at - c.args.a) n (work_of self) in
    record {
      from = omega (arith, upto, h.from);
      within = c.earlier-end.ensures.second;
      ready = λ state inputs ready start.
          let held = h.ready state inputs ready start in (
            input flat (row_values flat row),
            subst (λ s. IsAt self.program self.linked s (input flat (row_values flat row)) c.run_under.new.words) (sym (c.run_under.ensures.value now held.0 held.1 refl))
                (c.run_under.ensures.ready now held.0 held.1 refl),
          );
      value = λ state inputs ready start.
          let held = h.ready state inputs ready start in
          ap (driven flat (between c.args.rows.now end b)) (c.run_under.ensures.value now held.0 held.1 refl)
          ∙ ap (λ t. driven flat (between c.args.rows.now t b) (seg flat (λ t. row_values flat row) 0 n now)) (sym count)
          ∙ driven_stretch flat c.args.rows.now row at end b n now
          (λ t from before. c.stretch_at-stretch.ensures.rows t b from (omega (arith, before, c.earlier-end.ensures.first)) (omega (arith, before, c.earlier-end.ensures.second)))
          (omega (arith, count))
          ∙ h.value state inputs ready start;
      taken = c.run_under.ensures.taken ∙ omega (arith, steps, h.taken);
    }

pub returns-clause-value : goal.returns-clause-value
returns-clause-value g c = λ state inputs ready start.
    let self = c.args.self.now in
    let flat = design_flat self in
    let rs = self.linked.design.registers.items in
    ap (λ xs. driven flat xs (map (values_in self.program c.loop-at.words) rs)) (sym (nothing_between c.args.rows.now c.loop-at.at c.args.b (omega (arith, c.loop-at-test.false))))
    ∙ c.loop-at.invariant.value state inputs ready start

pub returns-clause-held : goal.returns-clause-held
returns-clause-held g c = λ state inputs ready start. (c.loop-at.invariant.ready state inputs ready start).1.ready
