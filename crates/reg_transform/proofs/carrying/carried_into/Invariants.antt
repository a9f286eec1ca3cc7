use Rattle.std.proofs.Common.{◌≡◌, ◌++◌, take, drop}
use Rattle.state_layout.specs.Slots.{state_widths}
use Rattle.reg_transform.specs.Beginnings.{initials_in}
use Rattle.reg_transform.specs.Found.{value_in}
use Rattle.reg_transform.specs.Numbers.{numbers_in, carried_by}
use Rattle.reg_transform.specs.Registers.{widths_of}
use Rattle.reg_transform.specs.Regs.{registers_in}
use Rattle.reg_transform.proofs.carrying.carried_into.Given as goal

abbrev pub invariant-loop-place : goal.invariant-loop-place
invariant-loop-place l = record {
  kept : state_widths l.carried ≡ widths_of (registers_in l.new);
  written : take l.place l.carried
      ++ carried_by l.ops (value_in l.values) (drop l.place (numbers_in l.numbers l.new)) (drop l.place (registers_in l.new)) (drop l.place (initials_in l.new))
      ≡ carried_by l.ops (value_in l.values) (numbers_in l.numbers l.new) (registers_in l.new) (initials_in l.new);
}
