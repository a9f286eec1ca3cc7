-- Keys may be shared among threads: so may each part of their jobs. What is shared by counting may go to another thread too.
use denote.Param.Send.{IsSend, IsSync, sendable}
use Rattle.std.proofs.Crossing.{crosses}
use Rattle.ls_text.proofs.place.Place.TheSendSync.{the_field_send as place_field_send, the_field_sync as place_field_sync}
use Rattle.ls_text.proofs.name_id.NameId.TheSendSync.{the_send as name_id_send, the_sync as name_id_sync}
use Rattle.ls_text.proofs.name_list.NameList.TheSendSync.{the_send as name_list_send, the_sync as name_list_sync}
use Rattle.ls_text.proofs.text_bytes.TextBytes.TheSendSync.{the_send as text_bytes_send, the_sync as text_bytes_sync}
use Rattle.typed_ir.proofs.const_list.ConstList.TheSendSync.{the_send as const_list_send, the_sync as const_list_sync}
use Rattle.typed_ir.proofs.shape_list.ShapeList.TheSendSync.{the_send as shape_list_send, the_sync as shape_list_sync}
use Rattle.verilog_ast.proofs.PartsShared.{child_send, child_sync, children_send, children_sync}
use Rattle.verilog_ast.proofs.identifier.Identifier.TheSendSync.{the_send as identifier_send, the_sync as identifier_sync, the_field_send as identifier_field_send, the_field_sync as identifier_field_sync}
use Rattle.verilog_ast.proofs.number.Number.TheSendSync.{the_field_send as number_field_send, the_field_sync as number_field_sync}
use Rattle.verilog_ast.proofs.pattern.Pattern.TheSendSync.{the_field_send as pattern_field_send, the_field_sync as pattern_field_sync}
use Rattle.verilog_ast.proofs.port_net.PortNet.TheSendSync.{the_field_send as port_net_field_send, the_field_sync as port_net_field_sync}
use Rattle.verilog_ast.proofs.case_kind.CaseKind.TheSendSync.{the_field_send as case_kind_field_send, the_field_sync as case_kind_field_sync}
use Rattle.verilog_ast.proofs.unary_operator.UnaryOperator.TheSendSync.{the_field_send as tree_unary_field_send, the_field_sync as tree_unary_field_sync}
use Rattle.verilog_ast.proofs.binary_operator.BinaryOperator.TheSendSync.{the_field_send as tree_binary_field_send, the_field_sync as tree_binary_field_sync}
use Rattle.verilog_ast.proofs.expression.Expr.TheLaws.TheKnot.{crosses as expr_parts}
use Rattle.verilog_ast.proofs.target.Lhs.TheLaws.TheKnot.{crosses as lhs_parts}
use Rattle.verilog_ast.proofs.statement.Arm.TheLaws.TheKnot.{crosses as tree_stmt_parts}
use Rattle.verilog_ast.proofs.generate_item.GenerateItem.TheLaws.TheKnot.{crosses as generate_parts}
use Rattle.verilog_ast.specs.contracts.expression.Expr as ExprRow
use Rattle.verilog_ast.specs.contracts.expression.Reference as ReferenceRow
use Rattle.verilog_ast.specs.contracts.parameter.Parameter as ParameterRow
use Rattle.verilog_ast.specs.contracts.range.Range as RangeRow
use Rattle.verilog_ast.specs.contracts.shape.Shape as ShapeRow
use Rattle.verilog_ast.specs.contracts.variable.Variable as VariableRow
use Rattle.verilog_ast.specs.contracts.reg_variable.RegVariable as RegVariableRow
use Rattle.verilog_ast.specs.contracts.target.Lhs as LhsRow
use Rattle.verilog_ast.specs.contracts.label.Label as LabelRow
use Rattle.verilog_ast.specs.contracts.statement.Stmt as TreeStmtRow
use Rattle.verilog_ast.specs.contracts.continuous.Continuous as ContinuousRow
use Rattle.verilog_ast.specs.contracts.named_connection.NamedConnection as NamedConnectionRow
use Rattle.verilog_ast.specs.contracts.ordered_connection.OrderedConnection as OrderedConnectionRow
use Rattle.verilog_ast.specs.contracts.connections.Connections as ConnectionsRow
use Rattle.verilog_ast.specs.contracts.instance.Instance as InstanceRow
use Rattle.verilog_ast.specs.contracts.plain_item.PlainItem as PlainItemRow
use Rattle.verilog_ast.specs.contracts.generate_loop.Loop as ForHeadRow
use Rattle.verilog_ast.specs.contracts.generate_item.GenerateItem as GenerateRow
use Rattle.verilog_ast.specs.contracts.item.Item as ItemRow
use Rattle.verilog_ast.specs.contracts.header_parameter.HeaderParameter as HeaderParameterRow
use Rattle.verilog_ast.specs.contracts.header_port.HeaderPort as HeaderPortRow
use Rattle.verilog_ast.specs.contracts.ports.Ports as PortsRow
use Rattle.verilog_ast.specs.contracts.module_body.ModuleBody as BodyRow
use Rattle.verilog_ast.specs.contracts.module.Module as TreeRow
use Rattle.module_registry.specs.contracts.build_job.BuildJob as JobRow
use Rattle.module_registry.specs.contracts.key.Key as KeyRow

expr_send : IsSend ExprRow.the_row
expr_send = search (expr_parts, child_send, children_send, place_field_send, number_field_send, identifier_field_send, tree_unary_field_send, tree_binary_field_send, sendable, crosses) depth 40 fits 20000

expr_sync : IsSync ExprRow.the_row
expr_sync = search (expr_parts, child_sync, children_sync, place_field_sync, number_field_sync, identifier_field_sync, tree_unary_field_sync, tree_binary_field_sync, sendable, crosses) depth 40 fits 20000

reference_field_send : IsSend (ReferenceRow.the_field).row
reference_field_send = search (expr_parts, child_send, children_send, place_field_send, number_field_send, identifier_field_send, tree_unary_field_send, tree_binary_field_send, sendable, crosses) depth 40 fits 20000

reference_field_sync : IsSync (ReferenceRow.the_field).row
reference_field_sync = search (expr_parts, child_sync, children_sync, place_field_sync, number_field_sync, identifier_field_sync, tree_unary_field_sync, tree_binary_field_sync, sendable, crosses) depth 40 fits 20000

parameter_field_send : IsSend (ParameterRow.the_field).row
parameter_field_send = search (identifier_field_send, child_send, expr_send, sendable, crosses) depth 40 fits 20000

parameter_field_sync : IsSync (ParameterRow.the_field).row
parameter_field_sync = search (identifier_field_sync, child_sync, expr_sync, sendable, crosses) depth 40 fits 20000

parameter_send : IsSend ParameterRow.the_row
parameter_send = search (identifier_field_send, child_send, expr_send, sendable, crosses) depth 40 fits 20000

parameter_sync : IsSync ParameterRow.the_row
parameter_sync = search (identifier_field_sync, child_sync, expr_sync, sendable, crosses) depth 40 fits 20000

range_send : IsSend RangeRow.the_row
range_send = search (child_send, expr_send, sendable, crosses) depth 40 fits 20000

range_sync : IsSync RangeRow.the_row
range_sync = search (child_sync, expr_sync, sendable, crosses) depth 40 fits 20000

shape_field_send : IsSend (ShapeRow.the_field).row
shape_field_send = search (range_send, sendable, crosses) depth 40 fits 20000

shape_field_sync : IsSync (ShapeRow.the_field).row
shape_field_sync = search (range_sync, sendable, crosses) depth 40 fits 20000

shape_send : IsSend ShapeRow.the_row
shape_send = search (range_send, sendable, crosses) depth 40 fits 20000

shape_sync : IsSync ShapeRow.the_row
shape_sync = search (range_sync, sendable, crosses) depth 40 fits 20000

variable_field_send : IsSend (VariableRow.the_field).row
variable_field_send = search (identifier_field_send, child_send, expr_send, sendable, crosses) depth 40 fits 20000

variable_field_sync : IsSync (VariableRow.the_field).row
variable_field_sync = search (identifier_field_sync, child_sync, expr_sync, sendable, crosses) depth 40 fits 20000

variable_send : IsSend VariableRow.the_row
variable_send = search (identifier_field_send, child_send, expr_send, sendable, crosses) depth 40 fits 20000

variable_sync : IsSync VariableRow.the_row
variable_sync = search (identifier_field_sync, child_sync, expr_sync, sendable, crosses) depth 40 fits 20000

reg_variable_send : IsSend RegVariableRow.the_row
reg_variable_send = search (identifier_field_send, child_send, expr_send, range_send, sendable, crosses) depth 40 fits 20000

reg_variable_sync : IsSync RegVariableRow.the_row
reg_variable_sync = search (identifier_field_sync, child_sync, expr_sync, range_sync, sendable, crosses) depth 40 fits 20000

lhs_field_send : IsSend (LhsRow.the_field).row
lhs_field_send = search (lhs_parts, children_send, place_field_send, reference_field_send, sendable, crosses) depth 40 fits 20000

lhs_field_sync : IsSync (LhsRow.the_field).row
lhs_field_sync = search (lhs_parts, children_sync, place_field_sync, reference_field_sync, sendable, crosses) depth 40 fits 20000

label_send : IsSend LabelRow.the_row
label_send = search (place_field_send, pattern_field_send, child_send, expr_send, sendable, crosses) depth 40 fits 20000

label_sync : IsSync LabelRow.the_row
label_sync = search (place_field_sync, pattern_field_sync, child_sync, expr_sync, sendable, crosses) depth 40 fits 20000

tree_stmt_send : IsSend TreeStmtRow.the_row
tree_stmt_send = search (tree_stmt_parts, child_send, children_send, place_field_send, identifier_send, case_kind_field_send, expr_send, lhs_field_send, label_send, sendable, crosses) depth 40 fits 20000

tree_stmt_sync : IsSync TreeStmtRow.the_row
tree_stmt_sync = search (tree_stmt_parts, child_sync, children_sync, place_field_sync, identifier_sync, case_kind_field_sync, expr_sync, lhs_field_sync, label_sync, sendable, crosses) depth 40 fits 20000

continuous_send : IsSend ContinuousRow.the_row
continuous_send = search (lhs_field_send, child_send, expr_send, sendable, crosses) depth 40 fits 20000

continuous_sync : IsSync ContinuousRow.the_row
continuous_sync = search (lhs_field_sync, child_sync, expr_sync, sendable, crosses) depth 40 fits 20000

named_connection_send : IsSend NamedConnectionRow.the_row
named_connection_send = search (place_field_send, identifier_field_send, child_send, expr_send, sendable, crosses) depth 40 fits 20000

named_connection_sync : IsSync NamedConnectionRow.the_row
named_connection_sync = search (place_field_sync, identifier_field_sync, child_sync, expr_sync, sendable, crosses) depth 40 fits 20000

ordered_connection_send : IsSend OrderedConnectionRow.the_row
ordered_connection_send = search (place_field_send, child_send, expr_send, sendable, crosses) depth 40 fits 20000

ordered_connection_sync : IsSync OrderedConnectionRow.the_row
ordered_connection_sync = search (place_field_sync, child_sync, expr_sync, sendable, crosses) depth 40 fits 20000

connections_field_send : IsSend (ConnectionsRow.the_field).row
connections_field_send = search (children_send, named_connection_send, ordered_connection_send, sendable, crosses) depth 40 fits 20000

connections_field_sync : IsSync (ConnectionsRow.the_field).row
connections_field_sync = search (children_sync, named_connection_sync, ordered_connection_sync, sendable, crosses) depth 40 fits 20000

connections_send : IsSend ConnectionsRow.the_row
connections_send = search (children_send, named_connection_send, ordered_connection_send, sendable, crosses) depth 40 fits 20000

connections_sync : IsSync ConnectionsRow.the_row
connections_sync = search (children_sync, named_connection_sync, ordered_connection_sync, sendable, crosses) depth 40 fits 20000

instance_send : IsSend InstanceRow.the_row
instance_send = search (identifier_field_send, connections_field_send, sendable, crosses) depth 40 fits 20000

instance_sync : IsSync InstanceRow.the_row
instance_sync = search (identifier_field_sync, connections_field_sync, sendable, crosses) depth 40 fits 20000

plain_item_field_send : IsSend (PlainItemRow.the_field).row
plain_item_field_send = search (child_send, children_send, place_field_send, identifier_send, identifier_field_send, shape_field_send, variable_send, reg_variable_send, parameter_send, continuous_send, tree_stmt_send, connections_send, instance_send, sendable, crosses) depth 40 fits 20000

plain_item_field_sync : IsSync (PlainItemRow.the_field).row
plain_item_field_sync = search (child_sync, children_sync, place_field_sync, identifier_sync, identifier_field_sync, shape_field_sync, variable_sync, reg_variable_sync, parameter_sync, continuous_sync, tree_stmt_sync, connections_sync, instance_sync, sendable, crosses) depth 40 fits 20000

for_head_field_send : IsSend (ForHeadRow.the_field).row
for_head_field_send = search (parameter_field_send, child_send, expr_send, sendable, crosses) depth 40 fits 20000

for_head_field_sync : IsSync (ForHeadRow.the_field).row
for_head_field_sync = search (parameter_field_sync, child_sync, expr_sync, sendable, crosses) depth 40 fits 20000

generate_field_send : IsSend (GenerateRow.the_field).row
generate_field_send = search (generate_parts, child_send, children_send, place_field_send, identifier_field_send, plain_item_field_send, for_head_field_send, expr_send, sendable, crosses) depth 40 fits 20000

generate_field_sync : IsSync (GenerateRow.the_field).row
generate_field_sync = search (generate_parts, child_sync, children_sync, place_field_sync, identifier_field_sync, plain_item_field_sync, for_head_field_sync, expr_sync, sendable, crosses) depth 40 fits 20000

generate_send : IsSend GenerateRow.the_row
generate_send = search (generate_parts, child_send, children_send, place_field_send, identifier_field_send, plain_item_field_send, for_head_field_send, expr_send, sendable, crosses) depth 40 fits 20000

generate_sync : IsSync GenerateRow.the_row
generate_sync = search (generate_parts, child_sync, children_sync, place_field_sync, identifier_field_sync, plain_item_field_sync, for_head_field_sync, expr_sync, sendable, crosses) depth 40 fits 20000

item_send : IsSend ItemRow.the_row
item_send = search (children_send, place_field_send, port_net_field_send, shape_field_send, identifier_send, variable_send, parameter_send, generate_send, generate_field_send, sendable, crosses) depth 40 fits 20000

item_sync : IsSync ItemRow.the_row
item_sync = search (children_sync, place_field_sync, port_net_field_sync, shape_field_sync, identifier_sync, variable_sync, parameter_sync, generate_sync, generate_field_sync, sendable, crosses) depth 40 fits 20000

header_parameter_send : IsSend HeaderParameterRow.the_row
header_parameter_send = search (shape_send, parameter_field_send, sendable, crosses) depth 40 fits 20000

header_parameter_sync : IsSync HeaderParameterRow.the_row
header_parameter_sync = search (shape_sync, parameter_field_sync, sendable, crosses) depth 40 fits 20000

header_port_send : IsSend HeaderPortRow.the_row
header_port_send = search (place_field_send, port_net_field_send, shape_field_send, identifier_field_send, variable_field_send, sendable, crosses) depth 40 fits 20000

header_port_sync : IsSync HeaderPortRow.the_row
header_port_sync = search (place_field_sync, port_net_field_sync, shape_field_sync, identifier_field_sync, variable_field_sync, sendable, crosses) depth 40 fits 20000

ports_field_send : IsSend (PortsRow.the_field).row
ports_field_send = search (children_send, identifier_send, header_port_send, sendable, crosses) depth 40 fits 20000

ports_field_sync : IsSync (PortsRow.the_field).row
ports_field_sync = search (children_sync, identifier_sync, header_port_sync, sendable, crosses) depth 40 fits 20000

body_field_send : IsSend (BodyRow.the_field).row
body_field_send = search (identifier_field_send, children_send, header_parameter_send, ports_field_send, item_send, sendable, crosses) depth 40 fits 20000

body_field_sync : IsSync (BodyRow.the_field).row
body_field_sync = search (identifier_field_sync, children_sync, header_parameter_sync, ports_field_sync, item_sync, sendable, crosses) depth 40 fits 20000

tree_send : IsSend TreeRow.the_row
tree_send = search (body_field_send, text_bytes_send, sendable, crosses) depth 40 fits 20000

tree_sync : IsSync TreeRow.the_row
tree_sync = search (body_field_sync, text_bytes_sync, sendable, crosses) depth 40 fits 20000

job_send : IsSend JobRow.the_row
job_send = search (tree_send, tree_sync, const_list_send, name_id_send, shape_list_send, name_list_send, sendable, crosses) depth 40 fits 20000

job_sync : IsSync JobRow.the_row
job_sync = search (tree_send, tree_sync, const_list_sync, name_id_sync, shape_list_sync, name_list_sync, sendable, crosses) depth 40 fits 20000

pub key_sync : IsSync KeyRow.the_row
key_sync = search (text_bytes_send, text_bytes_sync, job_send, job_sync, sendable, crosses) depth 40 fits 20000
