-- Units may go to another thread: so may each of their parts.
use denote.Param.Send.{IsSend, sendable}
use Rattle.std.proofs.Crossing.{crosses}
use Rattle.typed_ir.proofs.signal_id.SignalId.TheSendSync.{the_send as signal_id_send}
use Rattle.typed_ir.proofs.lane.Lane.TheSendSync.{the_send as lane_send}
use Rattle.typed_ir.proofs.target_form.TargetForm.TheSendSync.{the_field_send as target_form_field_send}
use Rattle.typed_ir.proofs.child_id.ChildId.TheSendSync.{the_send as child_id_send}
use Rattle.typed_ir.proofs.unit_signal.UnitSignal.TheSendSync.{the_send as unit_signal_send}
use Rattle.typed_ir.proofs.shape_list.ShapeList.TheSendSync.{the_send as shape_list_send}
use Rattle.typed_ir.specs.contracts.node.Node as NodeRow
use Rattle.typed_ir.proofs.Sent.{typed_field_send, stmt_field_send, stmt_send}
use Rattle.typed_ir.specs.contracts.unit_node.UnitNode as UnitNodeRow
use Rattle.typed_ir.specs.contracts.unit_parts.UnitParts as UnitPartsRow
use Rattle.typed_ir.specs.contracts.unit.Unit as UnitRow

node_field_send : IsSend (NodeRow.the_field).row
node_field_send = search (target_form_field_send, lane_send, typed_field_send, stmt_field_send, sendable, crosses) depth 40 fits 20000

unit_node_send : IsSend UnitNodeRow.the_row
unit_node_send = search (node_field_send, child_id_send, target_form_field_send, lane_send, typed_field_send, sendable, crosses) depth 40 fits 20000

unit_parts_field_send : IsSend (UnitPartsRow.the_field).row
unit_parts_field_send = search (unit_signal_send, signal_id_send, unit_node_send, stmt_send, shape_list_send, sendable, crosses) depth 40 fits 20000

pub unit_field_send : IsSend (UnitRow.the_field).row
unit_field_send = search (unit_parts_field_send, sendable, crosses) depth 40 fits 20000

pub unit_send : IsSend UnitRow.the_row
unit_send = search (unit_parts_field_send, sendable, crosses) depth 40 fits 20000
