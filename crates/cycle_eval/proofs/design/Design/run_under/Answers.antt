use Rattle.std.proofs.Common.{◌≡◌, suc, ◌+◌, ◌*◌, ◌∙◌, subst, ap, map, arith}
use Rattle.std.proofs.Math.Nat.{suc-mul}
use Rattle.typed_ir.specs.Cycles.{input, seg}
use Rattle.design_steps.specs.Programs.{IsAt, values_in}
use Rattle.cycle_eval.specs.Designs.{design_flat, work_of}
use Rattle.cycle_eval.specs.Inputs.{row_values}
use Rattle.cycle_eval.proofs.design.Design.run_under.Goals as goal

pub loop-cycle-preserved : goal.loop-cycle-preserved
loop-cycle-preserved g c =
    let self = c.args.self.now in
    let flat = design_flat self in
    let given = row_values flat c.args.row.now in
    let n = c.loop-cycle._cycle in
    let more : suc n ≡ n + 1 = omega arith in
    let row : (n + 1) * work_of self ≡ n * work_of self + work_of self = ap (λ k. k * work_of self) (omega arith) ∙ suc-mul n (work_of self) in
    record {
      ready = λ state h. subst (λ k. IsAt self.program self.linked (seg flat (λ t. given) 0 k state) (input flat given) c.cycle.new.words) more
          (c.cycle.ensures.ready (seg flat (λ t. given) 0 n state) (input flat given) (c.loop-cycle.invariant.ready state h));
      value = λ state h start. subst (λ k. map (values_in self.program c.cycle.new.words) self.linked.design.registers.items ≡ seg flat (λ t. given) 0 k state) more
          (c.cycle.ensures.value (seg flat (λ t. given) 0 n state) (input flat given) (c.loop-cycle.invariant.ready state h));
      taken = c.cycle.ensures.taken ∙ omega (arith, row, c.loop-cycle.invariant.taken);
    }

pub returns-clause-value : goal.returns-clause-value
returns-clause-value g c = λ state inputs ready start.
    let flat = design_flat c.args.self.now in
    let last : c.loop-cycle._cycle ≡ c.args.cycles = omega (arith, c.loop-cycle-test.false, c.loop-cycle.auto._cycle-end) in
    c.loop-cycle.invariant.value state (c.write_inputs.ensures.ready state inputs ready) (c.write_inputs.ensures.registers ∙ start)
    ∙ ap (λ n. seg flat (λ t. row_values flat c.args.row.now) 0 n state) last

pub returns-clause-ready : goal.returns-clause-ready
returns-clause-ready g c = λ state inputs ready start.
    let self = c.args.self.now in
    let flat = design_flat self in
    let given = row_values flat c.args.row.now in
    let last : c.loop-cycle._cycle ≡ c.args.cycles = omega (arith, c.loop-cycle-test.false, c.loop-cycle.auto._cycle-end) in
    subst (λ n. IsAt self.program self.linked (seg flat (λ t. given) 0 n state) (input flat given) c.loop-cycle.words) last
    (c.loop-cycle.invariant.ready state (c.write_inputs.ensures.ready state inputs ready))
