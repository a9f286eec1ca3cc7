use Rattle.std.proofs.Common.{◌≡◌, ◌≤◌, length, drop}
use Rattle.reg_transform.specs.Found.{Key, value_in}
use Rattle.reg_transform.specs.Numbers.{numbers_in, value_by}
use Rattle.reg_transform.specs.Regs.{registers_in}
use Rattle.reg_transform.specs.States.{state_values}
use Rattle.reg_transform.proofs.old_values.old_values.Given as goal

abbrev pub invariant-loop-left : goal.invariant-loop-left
invariant-loop-left l = record {
  within : l.left ≤ length l.regs.registers.now;
  held : (key : Key) → value_in l.values key ≡ value_by (drop l.left (numbers_in l.numbers l.regs)) (drop l.left (registers_in l.regs)) (drop l.left (state_values l.state)) key;
}

abbrev pub decreases-loop-left : goal.decreases-loop-left
decreases-loop-left l = l.left
