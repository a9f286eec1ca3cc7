use Rattle.std.proofs.Common.{rules, ◌≡◌, ◌∙◌}
use Rattle.std.specs.Arc.{arc_value}
use Rattle.typed_ir.specs.Paths.{paths_of}
use Rattle.reg_transform.proofs.Elements.{widths_are}
use Rattle.register_tests.proofs.operation_tests.slots_of.Goals as goal

pub returns : goal.returns
returns c =
    let regs = c.args.regs.now in
    let held : arc_value c.in_ok-new.field-0 ≡ c.in_ok-layout.layout = search rules in
    held ∙ c.in_ok-layout.ensures.made ∙ widths_are (paths_of regs.instances.now.rows.items) regs.signals.now regs.registers.now
