use Rattle.std.proofs.Common.{◌≡◌, ◌+◌, ◌-◌, ◌∙◌, ℕ, cond, drop, sym, ap, ap₂, arith}
use Rattle.std.specs.Prelude.{Some}
use Rattle.typed_ir.specs.Paths.{paths_of}
use Rattle.reg_transform.specs.Found.{greatest_in}
use Rattle.reg_transform.specs.Greatest.{greatest, lesser}
use Rattle.reg_transform.specs.Registers.{RegisterName, is_same}
use Rattle.reg_transform.specs.Regs.{register_of, registers_in}
use Rattle.reg_transform.proofs.Limits.{greatest_step}
use Rattle.reg_transform.proofs.greatest_values.greatest_values.Goals as goal

pub loop-left-preserved : goal.loop-left-preserved
loop-left-preserved c =
    let regs = c.args.regs.now in
    let x = c.signal_at-signal.result.now in
    let paths = paths_of regs.instances.now.rows.items in
    let r = register_of paths x in
    let i = c.loop-left.left - 1 in
    let more : i + 1 ≡ c.loop-left.left = omega arith in
    let rs = registers_in regs in
    let v = c.lessened-value.result in
    let known = greatest_in c.loop-left.values in
    record {
      within = omega arith;
      held = λ name.
          c.in_ok-put.ensures name
          ∙ ap (λ (n : RegisterName). cond (is_same n name) (Some v) (known name)) (c.name_at-name.ensures paths)
          ∙ greatest_step rs i r v known c.signal_at-signal.ensures.register
          (λ n. c.loop-left.invariant.held n ∙ sym (ap (λ k. greatest (drop k rs) n) more))
          (c.lessened-value.ensures ∙ ap₂ (λ (g : ℕ) (n : RegisterName). lesser g (known n)) c.greatest_of.ensures (c.name_at-name.ensures paths)) name;
    }
