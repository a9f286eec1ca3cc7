use Rattle.std.proofs.Common.{◌≡◌, ◌++◌, map, drop}
use Rattle.typed_ir.specs.States.{sized_value}
use Rattle.reg_transform.specs.Registers.{widths_of}
use Rattle.reg_transform.specs.Regs.{registers_in}
use Rattle.state_layout.specs.Slots.{state_widths}
use Rattle.register_tests.proofs.operation_tests.state_of.Given as goal

abbrev pub invariant-loop-place : goal.invariant-loop-place
invariant-loop-place l =
    state_widths (map sized_value l.state.items) ++ widths_of (drop l.place (registers_in l.layout.regs)) ≡ widths_of (registers_in l.layout.regs)
