use Rattle.std.proofs.Common.{◌≡◌, ◌+◌, ◌-◌, ◌<◌, ◌∙◌, length, get_or, map, drop, refl, sym, ap, subst, arith}
use Rattle.std.proofs.Math.Logic.{∥∥₁_elim}
use Rattle.std.proofs.Props.{props}
use Rattle.typed_ir.specs.Cycles.{fill, input, IsReady}
use Rattle.design_steps.specs.Programs.{values_in}
use Rattle.cycle_eval.specs.Designs.{design_flat}
use Rattle.cycle_eval.specs.Inputs.{row_values}
use Rattle.cycle_eval.proofs.InputRows.{given_all, registers_stay, inputs_ready}
use Rattle.cycle_eval.proofs.Loads.{all_filled, fill_step}
use Rattle.cycle_eval.proofs.design.Design.write_inputs.Goals as goal

pub loop-left-preserved : goal.loop-left-preserved
loop-left-preserved c =
    let self = c.args.self.now in
    let flat = design_flat self in
    let ss = self.linked.design.inputs.items in
    let xs = input flat (row_values flat c.args.row.now) in
    let i = c.loop-left.left - 1 in
    let start = values_in self.program c.args.words.now in
    let env = values_in self.program c.loop-left.words in
    let within : i < length ss = omega (arith, c.loop-left.invariant.within, c.loop-left-test.true) in
    let more : i + 1 ≡ c.loop-left.left = omega (arith, c.loop-left-test.true) in
    record {
      within = omega (arith, within);
      value = c.put_input.ensures.value
          ∙ fill_step ss xs i start env (get_or ss i 0) (get_or xs i 0) within (given_all flat (row_values flat c.args.row.now) i within) refl refl
          (subst (λ k. env ≡ fill (drop k ss) (drop k xs) start) (sym more) c.loop-left.invariant.value);
      held = λ before. c.put_input.ensures.held (c.loop-left.invariant.held before);
    }

pub returns-clause-value : goal.returns-clause-value
returns-clause-value c =
    let self = c.args.self.now in
    let flat = design_flat self in
    all_filled c.loop-left.left self.linked.design.inputs.items (input flat (row_values flat c.args.row.now)) (values_in self.program c.args.words.now)
    (values_in self.program c.loop-left.words) (omega (arith, c.loop-left-test.false)) c.loop-left.invariant.value

pub returns-clause-registers : goal.returns-clause-registers
returns-clause-registers c =
    let self = c.args.self.now in
    let design = self.linked.design in
    let flat = design_flat self in
    let xs = input flat (row_values flat c.args.row.now) in
    ap (λ v. map v design.registers.items) (returns-clause-value c)
    ∙ ∥∥₁_elim design.sound (hlevel props) (λ f.
    registers_stay design.registers.items design.inputs.items xs (values_in self.program c.args.words.now) f.apart)

pub returns-clause-ready : goal.returns-clause-ready
returns-clause-ready c = λ state inputs h.
    let self = c.args.self.now in
    let design = self.linked.design in
    let flat = design_flat self in
    let given = row_values flat c.args.row.now in
    record {
      ready = c.loop-left.invariant.held h.ready;
      based = subst (IsReady flat state (input flat given)) (sym (returns-clause-value c))
          (∥∥₁_elim design.sound (hlevel props) (λ f. inputs_ready flat state inputs given (values_in self.program c.args.words.now) f.apart h.based));
    }
