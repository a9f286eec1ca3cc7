use Rattle.std.proofs.Common.{◌≡◌, ◌+◌, ◌-◌, ◌&&◌, ◌==◌, ◌∙◌, ℕ, cond, drop, sym, ap, ap₂, arith}
use Rattle.std.specs.Prelude.{Some, slice_index}
use Rattle.typed_ir.specs.Paths.{paths_of}
use Rattle.reg_transform.specs.Found.{value_in}
use Rattle.reg_transform.specs.Numbers.{numbers_in, value_by}
use Rattle.reg_transform.specs.Registers.{RegisterName, called, is_same}
use Rattle.reg_transform.specs.Regs.{register_of, registers_in}
use Rattle.reg_transform.specs.States.{state_values}
use Rattle.reg_transform.proofs.Values.{got_value, value_step}
use Rattle.reg_transform.proofs.old_values.old_values.Goals as goal

pub loop-left-preserved : goal.loop-left-preserved
loop-left-preserved c =
    let regs = c.args.regs.now in
    let numbers = c.args.numbers.now in
    let paths = paths_of regs.instances.now.rows.items in
    let x = c.signal_at-signal.result.now in
    let n = slice_index numbers x.instance in
    let r = register_of paths x in
    let i = c.loop-left.left - 1 in
    let more : i + 1 ≡ c.loop-left.left = omega arith in
    let ns = numbers_in numbers regs in
    let rs = registers_in regs in
    let xs = state_values c.args.state.now in
    let v = c.read-value.result.value in
    record {
      within = omega arith;
      held = λ key.
          c.in_ok-put.ensures key
          ∙ ap₂ (λ (a : ℕ) (name : RegisterName). cond ((a == key.number) && is_same name key.called) (Some v) (value_in c.loop-left.values key))
          c.key_at-key.ensures.number (c.key_at-key.ensures.called paths)
          ∙ ap (cond ((n == key.number) && is_same (called r) key.called) (Some v))
          (c.loop-left.invariant.held key ∙ sym (ap (λ k. value_by (drop k ns) (drop k rs) (drop k xs) key) more))
          ∙ sym (value_step ns rs xs i n r v key (c.signal_at-signal.ensures.number numbers) c.signal_at-signal.ensures.register
          (got_value c.args.state.now i c.read-value.result.width v c.read-value.ensures));
    }
