-- Linked designs may go to another thread, and may be shared: so may each of their forms, targets, statements and nodes.
use denote.Param.Send.{IsSend, IsSync, sendable}
use Rattle.std.proofs.Crossing.{crosses}
use Rattle.typed_ir.proofs.form.Form.TheLaws.TheKnot.{crosses as form_parts}
use Rattle.typed_ir.proofs.stmt.Stmt.TheLaws.TheKnot.{crosses as stmt_parts}
use Rattle.typed_ir.specs.contracts.form.Form as FormRow
use Rattle.typed_ir.specs.contracts.typed.Typed as TypedRow
use Rattle.typed_ir.specs.contracts.item.Item as ItemRow
use Rattle.typed_ir.specs.contracts.lane.Lane as LaneRow
use Rattle.typed_ir.specs.contracts.target.Target as TargetRow
use Rattle.typed_ir.specs.contracts.stmt.Stmt as StmtRow
use Rattle.typed_ir.specs.contracts.node.Node as NodeRow
use Rattle.typed_ir.specs.contracts.linked.Linked as LinkedRow

pub form_field_send : IsSend (FormRow.the_field).row
form_field_send = search (form_parts, sendable, crosses) depth 40 fits 20000

pub form_field_sync : IsSync (FormRow.the_field).row
form_field_sync = search (form_parts, sendable, crosses) depth 40 fits 20000

pub typed_field_send : IsSend (TypedRow.the_field).row
typed_field_send = search (form_field_send, sendable, crosses) depth 40 fits 20000

pub typed_field_sync : IsSync (TypedRow.the_field).row
typed_field_sync = search (form_field_sync, sendable, crosses) depth 40 fits 20000

pub item_send : IsSend ItemRow.the_row
item_send = search (typed_field_send, sendable, crosses) depth 40 fits 20000

pub item_sync : IsSync ItemRow.the_row
item_sync = search (typed_field_sync, sendable, crosses) depth 40 fits 20000

pub lane_send : IsSend LaneRow.the_row
lane_send = search (sendable, crosses) depth 40 fits 20000

pub lane_sync : IsSync LaneRow.the_row
lane_sync = search (sendable, crosses) depth 40 fits 20000

pub lane_field_send : IsSend (LaneRow.the_field).row
lane_field_send = search (sendable, crosses) depth 40 fits 20000

pub lane_field_sync : IsSync (LaneRow.the_field).row
lane_field_sync = search (sendable, crosses) depth 40 fits 20000

pub target_send : IsSend TargetRow.the_row
target_send = search (lane_field_send, typed_field_send, sendable, crosses) depth 40 fits 20000

pub target_sync : IsSync TargetRow.the_row
target_sync = search (lane_field_sync, typed_field_sync, sendable, crosses) depth 40 fits 20000

pub stmt_send : IsSend StmtRow.the_row
stmt_send = search (stmt_parts, target_send, typed_field_send, item_send, sendable, crosses) depth 40 fits 20000

pub stmt_sync : IsSync StmtRow.the_row
stmt_sync = search (stmt_parts, target_sync, typed_field_sync, item_sync, sendable, crosses) depth 40 fits 20000

pub stmt_field_send : IsSend (StmtRow.the_field).row
stmt_field_send = search (stmt_parts, target_send, typed_field_send, item_send, sendable, crosses) depth 40 fits 20000

pub stmt_field_sync : IsSync (StmtRow.the_field).row
stmt_field_sync = search (stmt_parts, target_sync, typed_field_sync, item_sync, sendable, crosses) depth 40 fits 20000

pub node_send : IsSend NodeRow.the_row
node_send = search (lane_send, typed_field_send, stmt_field_send, sendable, crosses) depth 40 fits 20000

pub node_sync : IsSync NodeRow.the_row
node_sync = search (lane_sync, typed_field_sync, stmt_field_sync, sendable, crosses) depth 40 fits 20000

pub linked_field_send : IsSend (LinkedRow.the_field).row
linked_field_send = search (node_send, stmt_send, sendable, crosses) depth 100 fits 100000

pub linked_field_sync : IsSync (LinkedRow.the_field).row
linked_field_sync = search (node_sync, stmt_sync, sendable, crosses) depth 100 fits 100000
