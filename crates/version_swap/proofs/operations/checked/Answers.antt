use Rattle.std.proofs.Common.{length, option_copied}
use Rattle.ls_text.specs.Readings.{fault_view}
use Rattle.cycle_eval.specs.Designs.{design_flat}
use Rattle.cycle_eval.specs.Kits.{regs_of}
use Rattle.reg_transform.specs.Refusals.{refused_of}
use Rattle.version_swap.specs.Operations.{registers_of}
use Rattle.version_swap.proofs.RefusedOperations.{operation_shown, refused_lines}
use Rattle.version_swap.proofs.operations.checked.Goals as goal

pub fault_of-requires-clause-index : goal.fault_of-requires-clause-index
fault_of-requires-clause-index c =
    (refused_lines (length c.args.names.now) (registers_of (option_copied c.args.old)) (regs_of (design_flat c.args.new.now)) c.args.lines.now
    c.deref.result.now c.in_ok-ops.ops.items c.in-Err-Breaks.field-0 c.in-Err-Breaks.broken c.deref.ensures.value c.in_ok-ops.ensures
    c.requires.named c.in-Err-Breaks.field-0-is c.in-Err-Breaks.ensures.refused).within.index

pub fault_of-requires-clause-in_module : goal.fault_of-requires-clause-in_module
fault_of-requires-clause-in_module c =
    (refused_lines (length c.args.names.now) (registers_of (option_copied c.args.old)) (regs_of (design_flat c.args.new.now)) c.args.lines.now
    c.deref.result.now c.in_ok-ops.ops.items c.in-Err-Breaks.field-0 c.in-Err-Breaks.broken c.deref.ensures.value c.in_ok-ops.ensures
    c.requires.named c.in-Err-Breaks.field-0-is c.in-Err-Breaks.ensures.refused).within.shown.in_module

pub fault_of-requires-clause-register : goal.fault_of-requires-clause-register
fault_of-requires-clause-register c =
    (refused_lines (length c.args.names.now) (registers_of (option_copied c.args.old)) (regs_of (design_flat c.args.new.now)) c.args.lines.now
    c.deref.result.now c.in_ok-ops.ops.items c.in-Err-Breaks.field-0 c.in-Err-Breaks.broken c.deref.ensures.value c.in_ok-ops.ensures
    c.requires.named c.in-Err-Breaks.field-0-is c.in-Err-Breaks.ensures.refused).within.shown.register

pub returns-clause-refused : goal.returns-clause-refused
returns-clause-refused c =
    let refused = refused_of c.in-Err-Breaks.broken in
    let is = refused_lines (length c.args.names.now) (registers_of (option_copied c.args.old)) (regs_of (design_flat c.args.new.now))
    c.args.lines.now c.deref.result.now c.in_ok-ops.ops.items c.in-Err-Breaks.field-0 c.in-Err-Breaks.broken c.deref.ensures.value
    c.in_ok-ops.ensures c.requires.named c.in-Err-Breaks.field-0-is c.in-Err-Breaks.ensures.refused in (
      refused,
      is.first,
      operation_shown c.args.names.now c.fault_of.new.names c.args.lines.now refused
          (fault_view c.fault_of.new.names c.in_ok-fault_of-in-Err-Breaks.field-0) c.in_ok-fault_of-in-Err-Breaks.ensures.grows is.within.shown
          c.in_ok-fault_of-in-Err-Breaks.ensures.view,
    )
