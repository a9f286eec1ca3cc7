-- A tree under other names: what each name's number becomes is told by a function, and all else stays.
use Rattle.std.specs.Prelude.{map}
use Rattle.std.specs.Option.{option_map}
use Rattle.ls_text.specs.declared.name_id.NameId.{NameId}
use Rattle.verilog_ast.specs.declared.identifier.Identifier.{Identifier}
use Rattle.verilog_ast.specs.declared.expression.Expr.{Expr}
use Rattle.verilog_ast.specs.declared.expression.Expr.TheVariants as e
use Rattle.verilog_ast.specs.declared.expression.Expr.TheOpen.{Expr-F, Reference-F}
use Rattle.verilog_ast.specs.declared.expression.Expr.TheFolds.{fold-Expr, fold-Reference}
use Rattle.verilog_ast.specs.declared.expression.Reference.{Reference}
use Rattle.verilog_ast.specs.declared.expression.Reference.TheVariants as ref
use Rattle.verilog_ast.specs.declared.target.Lhs.{Lhs}
use Rattle.verilog_ast.specs.declared.target.Lhs.TheVariants as target
use Rattle.verilog_ast.specs.declared.target.Lhs.TheOpen.{Lhs-F}
use Rattle.verilog_ast.specs.declared.target.Lhs.TheFolds.{fold-Lhs}
use Rattle.verilog_ast.specs.declared.label.Label.{Label}
use Rattle.verilog_ast.specs.declared.label.Label.TheVariants as label
use Rattle.verilog_ast.specs.declared.statement.Stmt.{Stmt}
use Rattle.verilog_ast.specs.declared.statement.Stmt.TheVariants as statement
use Rattle.verilog_ast.specs.declared.statement.Arm.{Arm}
use Rattle.verilog_ast.specs.declared.statement.Arm.TheVariants as arm
use Rattle.verilog_ast.specs.declared.statement.Arm.TheOpen.{Stmt-F, Arm-F}
use Rattle.verilog_ast.specs.declared.statement.Arm.TheFolds.{fold-Stmt, fold-Arm}
use Rattle.verilog_ast.specs.declared.range.Range.{Range}
use Rattle.verilog_ast.specs.declared.shape.Shape.{Shape}
use Rattle.verilog_ast.specs.declared.variable.Variable.{Variable}
use Rattle.verilog_ast.specs.declared.reg_variable.RegVariable.{RegVariable}
use Rattle.verilog_ast.specs.declared.parameter.Parameter.{Parameter}
use Rattle.verilog_ast.specs.declared.header_parameter.HeaderParameter.{HeaderParameter}
use Rattle.verilog_ast.specs.declared.header_port.HeaderPort.{HeaderPort}
use Rattle.verilog_ast.specs.declared.header_port.HeaderPort.TheVariants as port
use Rattle.verilog_ast.specs.declared.ports.Ports.{Ports}
use Rattle.verilog_ast.specs.declared.ports.Ports.TheVariants as ports
use Rattle.verilog_ast.specs.declared.named_connection.NamedConnection.{NamedConnection}
use Rattle.verilog_ast.specs.declared.ordered_connection.OrderedConnection.{OrderedConnection}
use Rattle.verilog_ast.specs.declared.connections.Connections.{Connections}
use Rattle.verilog_ast.specs.declared.connections.Connections.TheVariants as connections
use Rattle.verilog_ast.specs.declared.instance.Instance.{Instance}
use Rattle.verilog_ast.specs.declared.continuous.Continuous.{Continuous}
use Rattle.verilog_ast.specs.declared.generate_loop.Loop.{Loop}
use Rattle.verilog_ast.specs.declared.plain_item.PlainItem.{PlainItem}
use Rattle.verilog_ast.specs.declared.plain_item.PlainItem.TheVariants as plain
use Rattle.verilog_ast.specs.declared.generate_item.Branch.{Branch}
use Rattle.verilog_ast.specs.declared.generate_item.GenerateItem.{GenerateItem}
use Rattle.verilog_ast.specs.declared.generate_item.GenerateItem.TheVariants as generate
use Rattle.verilog_ast.specs.declared.generate_item.GenerateItem.TheOpen.{GenerateItem-F, Branch-F}
use Rattle.verilog_ast.specs.declared.generate_item.GenerateItem.TheFolds.{fold-GenerateItem, fold-Branch}
use Rattle.verilog_ast.specs.declared.item.Item.{Item}
use Rattle.verilog_ast.specs.declared.item.Item.TheVariants as item
use Rattle.verilog_ast.specs.declared.module_body.ModuleBody.{ModuleBody}

abbrev pub renamed_identifier : (NameId → NameId) → Identifier → Identifier
renamed_identifier f n = record { at = n.at; name = f n.name }

-- ---- expressions

-- one name with its select, where the expressions in it are renamed
abbrev pub reference_step : (NameId → NameId) → Reference-F Expr Reference → Reference
reference_step f (Reference-F.Whole n) = ref.Whole (renamed_identifier f n)
reference_step f (Reference-F.Bit n x) = ref.Bit (renamed_identifier f n) x
reference_step f (Reference-F.Part n x y) = ref.Part (renamed_identifier f n) x y
reference_step f (Reference-F.Upward n x y) = ref.Upward (renamed_identifier f n) x y
reference_step f (Reference-F.Downward n x y) = ref.Downward (renamed_identifier f n) x y

-- one expression, where those in it are renamed
abbrev pub expression_step : Expr-F Expr Reference → Expr
expression_step (Expr-F.Number at x) = e.Number at x
expression_step (Expr-F.Read x) = e.Read x
expression_step (Expr-F.Unary at op x) = e.Unary at op x
expression_step (Expr-F.Binary op x y) = e.Binary op x y
expression_step (Expr-F.Conditional x y z) = e.Conditional x y z
expression_step (Expr-F.Concatenation at xs) = e.Concatenation at xs
expression_step (Expr-F.Replication at x ys) = e.Replication at x ys
expression_step (Expr-F.Bracketed at x) = e.Bracketed at x

abbrev pub renamed_reference : (NameId → NameId) → Reference → Reference
renamed_reference f = fold-Reference Expr Reference expression_step (reference_step f)

abbrev pub renamed_expression : (NameId → NameId) → Expr → Expr
renamed_expression f = fold-Expr Expr Reference expression_step (reference_step f)

-- ---- statements

abbrev pub target_step : (NameId → NameId) → Lhs-F Lhs → Lhs
target_step f (Lhs-F.Reference x) = target.Reference (renamed_reference f x)
target_step f (Lhs-F.Concatenation at xs) = target.Concatenation at xs

abbrev pub renamed_target : (NameId → NameId) → Lhs → Lhs
renamed_target f = fold-Lhs Lhs (target_step f)

abbrev pub renamed_label : (NameId → NameId) → Label → Label
renamed_label f (label.Pattern at x) = label.Pattern at x
renamed_label f (label.Expr x) = label.Expr (renamed_expression f x)

-- one statement, where those in it are renamed
abbrev pub statement_step : (NameId → NameId) → Stmt-F Arm Stmt → Stmt
statement_step f (Stmt-F.Block at l xs) = statement.Block at (option_map (renamed_identifier f) l) xs
statement_step f (Stmt-F.If at x y) = statement.If at (renamed_expression f x) y
statement_step f (Stmt-F.IfElse at x y z) = statement.IfElse at (renamed_expression f x) y z
statement_step f (Stmt-F.Case at which x ys) = statement.Case at which (renamed_expression f x) ys
statement_step f (Stmt-F.Assign x y) = statement.Assign (renamed_target f x) (renamed_expression f y)
statement_step f (Stmt-F.Empty at) = statement.Empty at

abbrev pub arm_step : (NameId → NameId) → Arm-F Arm Stmt → Arm
arm_step f (Arm-F.Default at x) = arm.Default at x
arm_step f (Arm-F.Match ls x) = arm.Match (map (renamed_label f) ls) x

abbrev pub renamed_statement : (NameId → NameId) → Stmt → Stmt
renamed_statement f = fold-Stmt Arm Stmt (arm_step f) (statement_step f)

abbrev pub renamed_arm : (NameId → NameId) → Arm → Arm
renamed_arm f = fold-Arm Arm Stmt (arm_step f) (statement_step f)

-- ---- declarations

abbrev pub renamed_range : (NameId → NameId) → Range → Range
renamed_range f x = record { high = renamed_expression f x.high; low = renamed_expression f x.low }

abbrev pub renamed_shape : (NameId → NameId) → Shape → Shape
renamed_shape f x = record { signed = x.signed; range = option_map (renamed_range f) x.range }

abbrev pub renamed_variable : (NameId → NameId) → Variable → Variable
renamed_variable f x = record { name = renamed_identifier f x.name; value = option_map (renamed_expression f) x.value }

abbrev pub renamed_reg_variable : (NameId → NameId) → RegVariable → RegVariable
renamed_reg_variable f x = record {
  name = renamed_identifier f x.name;
  value = option_map (renamed_expression f) x.value;
  addresses = option_map (renamed_range f) x.addresses;
}

abbrev pub renamed_parameter : (NameId → NameId) → Parameter → Parameter
renamed_parameter f x = record { name = renamed_identifier f x.name; value = renamed_expression f x.value }

abbrev pub renamed_header_parameter : (NameId → NameId) → HeaderParameter → HeaderParameter
renamed_header_parameter f x = record { shape = option_map (renamed_shape f) x.shape; parameter = renamed_parameter f x.parameter }

abbrev pub renamed_header_port : (NameId → NameId) → HeaderPort → HeaderPort
renamed_header_port f (port.Input at net x n) = port.Input at net (renamed_shape f x) (renamed_identifier f n)
renamed_header_port f (port.Output at net x y) = port.Output at net (renamed_shape f x) (renamed_variable f y)
renamed_header_port f (port.Next x) = port.Next (renamed_variable f x)

abbrev pub renamed_ports : (NameId → NameId) → Ports → Ports
renamed_ports f (ports.Nothing) = ports.Nothing
renamed_ports f (ports.Names xs) = ports.Names (map (renamed_identifier f) xs)
renamed_ports f (ports.Declarations xs) = ports.Declarations (map (renamed_header_port f) xs)

-- ---- items

abbrev pub renamed_named : (NameId → NameId) → NamedConnection → NamedConnection
renamed_named f x = record { at = x.at; name = renamed_identifier f x.name; value = option_map (renamed_expression f) x.value }

abbrev pub renamed_ordered : (NameId → NameId) → OrderedConnection → OrderedConnection
renamed_ordered f x = record { at = x.at; value = option_map (renamed_expression f) x.value }

abbrev pub renamed_connections : (NameId → NameId) → Connections → Connections
renamed_connections f (connections.Named xs) = connections.Named (map (renamed_named f) xs)
renamed_connections f (connections.Ordered xs) = connections.Ordered (map (renamed_ordered f) xs)

abbrev pub renamed_instance : (NameId → NameId) → Instance → Instance
renamed_instance f x = record { name = renamed_identifier f x.name; connections = renamed_connections f x.connections }

abbrev pub renamed_continuous : (NameId → NameId) → Continuous → Continuous
renamed_continuous f x = record { target = renamed_target f x.target; value = renamed_expression f x.value }

abbrev pub renamed_plain_item : (NameId → NameId) → PlainItem → PlainItem
renamed_plain_item f (plain.Wire at x ys) = plain.Wire at (renamed_shape f x) (map (renamed_variable f) ys)
renamed_plain_item f (plain.Reg at x ys) = plain.Reg at (renamed_shape f x) (map (renamed_reg_variable f) ys)
renamed_plain_item f (plain.LocalParameter at x ys) = plain.LocalParameter at (renamed_shape f x) (map (renamed_parameter f) ys)
renamed_plain_item f (plain.Genvar at xs) = plain.Genvar at (map (renamed_identifier f) xs)
renamed_plain_item f (plain.Assign at xs) = plain.Assign at (map (renamed_continuous f) xs)
renamed_plain_item f (plain.Combinational at x) = plain.Combinational at (renamed_statement f x)
renamed_plain_item f (plain.Clocked at n x) = plain.Clocked at (renamed_identifier f n) (renamed_statement f x)
renamed_plain_item f (plain.Instances n x ys) =
    plain.Instances (renamed_identifier f n) (option_map (renamed_connections f) x) (map (renamed_instance f) ys)

abbrev pub renamed_loop : (NameId → NameId) → Loop → Loop
renamed_loop f x = record {
  start = renamed_parameter f x.start;
  condition = renamed_expression f x.condition;
  step = renamed_parameter f x.step;
}

-- one item, where those in it are renamed
abbrev pub generate_item_step : (NameId → NameId) → GenerateItem-F GenerateItem Branch → GenerateItem
generate_item_step f (GenerateItem-F.Plain x) = generate.Plain (renamed_plain_item f x)
generate_item_step f (GenerateItem-F.For at x n ys) = generate.For at (renamed_loop f x) (renamed_identifier f n) ys
generate_item_step f (GenerateItem-F.If xs) = generate.If xs

abbrev pub branch_step : (NameId → NameId) → Branch-F GenerateItem Branch → Branch
branch_step f x = record {
  at = x.at;
  condition = option_map (renamed_expression f) x.condition;
  label = renamed_identifier f x.label;
  items = x.items;
}

abbrev pub renamed_generate_item : (NameId → NameId) → GenerateItem → GenerateItem
renamed_generate_item f = fold-GenerateItem GenerateItem Branch (generate_item_step f) (branch_step f)

abbrev pub renamed_branch : (NameId → NameId) → Branch → Branch
renamed_branch f = fold-Branch GenerateItem Branch (generate_item_step f) (branch_step f)

abbrev pub renamed_item : (NameId → NameId) → Item → Item
renamed_item f (item.Input at net x ns) = item.Input at net (renamed_shape f x) (map (renamed_identifier f) ns)
renamed_item f (item.Output at net x ys) = item.Output at net (renamed_shape f x) (map (renamed_variable f) ys)
renamed_item f (item.Parameter at x ys) = item.Parameter at (renamed_shape f x) (map (renamed_parameter f) ys)
renamed_item f (item.Region at xs) = item.Region at (map (renamed_generate_item f) xs)
renamed_item f (item.Item x) = item.Item (renamed_generate_item f x)

abbrev pub renamed_body : (NameId → NameId) → ModuleBody → ModuleBody
renamed_body f x = record {
  name = renamed_identifier f x.name;
  parameters = map (renamed_header_parameter f) x.parameters;
  ports = renamed_ports f x.ports;
  items = map (renamed_item f) x.items;
}
