-- A design may go to another thread, and may be shared: so may each part of it.
use denote.Param.Send.{IsSend, IsSync, sendable}
use Rattle.std.proofs.Crossing.{crosses}
use Rattle.typed_ir.proofs.Sent.{linked_field_send, linked_field_sync}
use Rattle.word_steps.specs.contracts.op.Op as OpRow
use Rattle.word_steps.specs.contracts.step.Step as StepRow
use Rattle.design_steps.specs.contracts.constants.Constants as ConstantsRow
use Rattle.design_steps.specs.contracts.layout.Layout as PlacesRow
use Rattle.design_steps.specs.contracts.program.Program as ProgramRow
use Rattle.state_pages.specs.contracts.pages.Pages as PagesRow
use Rattle.state_layout.specs.contracts.layout.Layout as LayoutRow
use Rattle.state_layout.specs.contracts.slot_state.SlotState as StateRow
use Rattle.reg_ops.specs.contracts.reg_ops.RegOps as OpsRow
use Rattle.stimulus.specs.contracts.row.Row as InputsRow
use Rattle.cycle_eval.specs.contracts.design.Design as DesignRow

op_send : IsSend OpRow.the_row
op_send = search (sendable, crosses) depth 300 fits 200000

op_sync : IsSync OpRow.the_row
op_sync = search (sendable, crosses) depth 300 fits 200000

op_field_send : IsSend (OpRow.the_field).row
op_field_send = search (op_send, sendable, crosses) depth 300 fits 200000

op_field_sync : IsSync (OpRow.the_field).row
op_field_sync = search (op_sync, sendable, crosses) depth 300 fits 200000

step_send : IsSend StepRow.the_row
step_send = search (op_field_send, sendable, crosses) depth 100 fits 100000

step_sync : IsSync StepRow.the_row
step_sync = search (op_field_sync, sendable, crosses) depth 100 fits 100000

constants_send : IsSend ConstantsRow.the_row
constants_send = search (sendable, crosses) depth 40 fits 20000

constants_sync : IsSync ConstantsRow.the_row
constants_sync = search (sendable, crosses) depth 40 fits 20000

places_send : IsSend PlacesRow.the_row
places_send = search (constants_send, sendable, crosses) depth 40 fits 20000

places_sync : IsSync PlacesRow.the_row
places_sync = search (constants_sync, sendable, crosses) depth 40 fits 20000

program_send : IsSend ProgramRow.the_row
program_send = search (step_send, places_send, sendable, crosses) depth 40 fits 20000

program_sync : IsSync ProgramRow.the_row
program_sync = search (step_sync, places_sync, sendable, crosses) depth 40 fits 20000

program_field_send : IsSend (ProgramRow.the_field).row
program_field_send = search (program_send, step_send, places_send, sendable, crosses) depth 100 fits 100000

program_field_sync : IsSync (ProgramRow.the_field).row
program_field_sync = search (program_sync, step_sync, places_sync, sendable, crosses) depth 100 fits 100000

layout_send : IsSend LayoutRow.the_row
layout_send = search (sendable, crosses) depth 40 fits 20000

layout_sync : IsSync LayoutRow.the_row
layout_sync = search (sendable, crosses) depth 40 fits 20000

pub design_send : IsSend DesignRow.the_row
design_send = search (linked_field_send, program_field_send, layout_send, layout_sync, sendable, crosses) depth 100 fits 100000

pub design_sync : IsSync DesignRow.the_row
design_sync = search (linked_field_sync, program_field_sync, layout_send, layout_sync, sendable, crosses) depth 100 fits 100000

pages_send : IsSend PagesRow.the_row
pages_send = search (sendable, crosses) depth 40 fits 20000

-- and so may its states, its rows and the operations between designs

pub state_send : IsSend StateRow.the_row
state_send = search (layout_send, layout_sync, pages_send, sendable, crosses) depth 40 fits 20000

pub inputs_send : IsSend InputsRow.the_row
inputs_send = search (sendable, crosses) depth 40 fits 20000

pub inputs_sync : IsSync InputsRow.the_row
inputs_sync = search (sendable, crosses) depth 40 fits 20000

pub ops_send : IsSend OpsRow.the_row
ops_send = search (sendable, crosses) depth 40 fits 20000

pub ops_sync : IsSync OpsRow.the_row
ops_sync = search (sendable, crosses) depth 40 fits 20000
