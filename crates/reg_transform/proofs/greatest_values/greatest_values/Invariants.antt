use Rattle.std.proofs.Common.{◌≡◌, ◌≤◌, length, drop}
use Rattle.reg_transform.specs.Found.{greatest_in}
use Rattle.reg_transform.specs.Greatest.{greatest}
use Rattle.reg_transform.specs.Registers.{RegisterName}
use Rattle.reg_transform.specs.Regs.{registers_in}
use Rattle.reg_transform.proofs.greatest_values.greatest_values.Given as goal

abbrev pub invariant-loop-left : goal.invariant-loop-left
invariant-loop-left l = record {
  within : l.left ≤ length l.regs.registers.now;
  held : (name : RegisterName) → greatest_in l.values name ≡ greatest (drop l.left (registers_in l.regs)) name;
}

abbrev pub decreases-loop-left : goal.decreases-loop-left
decreases-loop-left l = l.left
