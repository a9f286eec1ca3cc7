-- Trees of the code and tokens without their places: each stands at one place, and all else stays.
use Rattle.std.specs.Prelude.{List, map}
use Rattle.std.specs.Option.{option_map}
use Rattle.verilog_lex.specs.declared.token.Token.{Token}
use Rattle.verilog_ast.specs.Places.{no_place}
use Rattle.version_swap.specs.Unplaced.{unplaced_name}
use Rattle.verilog_ast.specs.declared.expression.Expr.{Expr}
use Rattle.verilog_ast.specs.declared.expression.Expr.TheVariants as e
use Rattle.verilog_ast.specs.declared.expression.Expr.TheOpen.{Expr-F, Reference-F}
use Rattle.verilog_ast.specs.declared.expression.Expr.TheFolds.{fold-Expr, fold-Reference}
use Rattle.verilog_ast.specs.declared.expression.Reference.{Reference}
use Rattle.verilog_ast.specs.declared.expression.Reference.TheVariants as ref
use Rattle.verilog_ast.specs.declared.target.Lhs.{Lhs}
use Rattle.verilog_ast.specs.declared.target.Lhs.TheVariants as target
use Rattle.verilog_ast.specs.declared.target.Lhs.TheOpen.{Lhs-F}
use Rattle.verilog_ast.specs.declared.target.Lhs.TheFolds.{fold-Lhs}
use Rattle.verilog_ast.specs.declared.label.Label.{Label}
use Rattle.verilog_ast.specs.declared.label.Label.TheVariants as label
use Rattle.verilog_ast.specs.declared.statement.Stmt.{Stmt}
use Rattle.verilog_ast.specs.declared.statement.Stmt.TheVariants as statement
use Rattle.verilog_ast.specs.declared.statement.Arm.{Arm}
use Rattle.verilog_ast.specs.declared.statement.Arm.TheVariants as arm
use Rattle.verilog_ast.specs.declared.statement.Arm.TheOpen.{Stmt-F, Arm-F}
use Rattle.verilog_ast.specs.declared.statement.Arm.TheFolds.{fold-Stmt, fold-Arm}
use Rattle.verilog_ast.specs.declared.range.Range.{Range}
use Rattle.verilog_ast.specs.declared.shape.Shape.{Shape}
use Rattle.verilog_ast.specs.declared.variable.Variable.{Variable}
use Rattle.verilog_ast.specs.declared.reg_variable.RegVariable.{RegVariable}
use Rattle.verilog_ast.specs.declared.parameter.Parameter.{Parameter}
use Rattle.verilog_ast.specs.declared.header_parameter.HeaderParameter.{HeaderParameter}
use Rattle.verilog_ast.specs.declared.header_port.HeaderPort.{HeaderPort}
use Rattle.verilog_ast.specs.declared.header_port.HeaderPort.TheVariants as port
use Rattle.verilog_ast.specs.declared.ports.Ports.{Ports}
use Rattle.verilog_ast.specs.declared.ports.Ports.TheVariants as ports
use Rattle.verilog_ast.specs.declared.named_connection.NamedConnection.{NamedConnection}
use Rattle.verilog_ast.specs.declared.ordered_connection.OrderedConnection.{OrderedConnection}
use Rattle.verilog_ast.specs.declared.connections.Connections.{Connections}
use Rattle.verilog_ast.specs.declared.connections.Connections.TheVariants as connections
use Rattle.verilog_ast.specs.declared.instance.Instance.{Instance}
use Rattle.verilog_ast.specs.declared.continuous.Continuous.{Continuous}
use Rattle.verilog_ast.specs.declared.generate_loop.Loop.{Loop}
use Rattle.verilog_ast.specs.declared.plain_item.PlainItem.{PlainItem}
use Rattle.verilog_ast.specs.declared.plain_item.PlainItem.TheVariants as plain
use Rattle.verilog_ast.specs.declared.generate_item.Branch.{Branch}
use Rattle.verilog_ast.specs.declared.generate_item.GenerateItem.{GenerateItem}
use Rattle.verilog_ast.specs.declared.generate_item.GenerateItem.TheVariants as generate
use Rattle.verilog_ast.specs.declared.generate_item.GenerateItem.TheOpen.{GenerateItem-F, Branch-F}
use Rattle.verilog_ast.specs.declared.generate_item.GenerateItem.TheFolds.{fold-GenerateItem, fold-Branch}
use Rattle.verilog_ast.specs.declared.item.Item.{Item}
use Rattle.verilog_ast.specs.declared.item.Item.TheVariants as item
use Rattle.verilog_ast.specs.declared.module_body.ModuleBody.{ModuleBody}

-- ---- expressions

-- one name with its select, where those in it have no places
abbrev pub reference_step : Reference-F Expr Reference → Reference
reference_step (Reference-F.Whole n) = ref.Whole (unplaced_name n)
reference_step (Reference-F.Bit n x) = ref.Bit (unplaced_name n) x
reference_step (Reference-F.Part n x y) = ref.Part (unplaced_name n) x y
reference_step (Reference-F.Upward n x y) = ref.Upward (unplaced_name n) x y
reference_step (Reference-F.Downward n x y) = ref.Downward (unplaced_name n) x y

-- one expression, where those in it have no places
abbrev pub expression_step : Expr-F Expr Reference → Expr
expression_step (Expr-F.Number at x) = e.Number no_place x
expression_step (Expr-F.Read x) = e.Read x
expression_step (Expr-F.Unary at op x) = e.Unary no_place op x
expression_step (Expr-F.Binary op x y) = e.Binary op x y
expression_step (Expr-F.Conditional x y z) = e.Conditional x y z
expression_step (Expr-F.Concatenation at xs) = e.Concatenation no_place xs
expression_step (Expr-F.Replication at x ys) = e.Replication no_place x ys
expression_step (Expr-F.Bracketed at x) = e.Bracketed no_place x

abbrev pub bare_reference : Reference → Reference
bare_reference = fold-Reference Expr Reference expression_step reference_step

abbrev pub bare_expression : Expr → Expr
bare_expression = fold-Expr Expr Reference expression_step reference_step

-- ---- statements

abbrev pub target_step : Lhs-F Lhs → Lhs
target_step (Lhs-F.Reference x) = target.Reference (bare_reference x)
target_step (Lhs-F.Concatenation at xs) = target.Concatenation no_place xs

abbrev pub bare_target : Lhs → Lhs
bare_target = fold-Lhs Lhs target_step

abbrev pub bare_label : Label → Label
bare_label (label.Pattern at x) = label.Pattern no_place x
bare_label (label.Expr x) = label.Expr (bare_expression x)

-- one statement, where those in it have no places
abbrev pub statement_step : Stmt-F Arm Stmt → Stmt
statement_step (Stmt-F.Block at l xs) = statement.Block no_place (option_map unplaced_name l) xs
statement_step (Stmt-F.If at x y) = statement.If no_place (bare_expression x) y
statement_step (Stmt-F.IfElse at x y z) = statement.IfElse no_place (bare_expression x) y z
statement_step (Stmt-F.Case at which x ys) = statement.Case no_place which (bare_expression x) ys
statement_step (Stmt-F.Assign x y) = statement.Assign (bare_target x) (bare_expression y)
statement_step (Stmt-F.Empty at) = statement.Empty no_place

abbrev pub arm_step : Arm-F Arm Stmt → Arm
arm_step (Arm-F.Default at x) = arm.Default no_place x
arm_step (Arm-F.Match ls x) = arm.Match (map bare_label ls) x

abbrev pub bare_statement : Stmt → Stmt
bare_statement = fold-Stmt Arm Stmt arm_step statement_step

abbrev pub bare_arm : Arm → Arm
bare_arm = fold-Arm Arm Stmt arm_step statement_step

-- ---- declarations

abbrev pub bare_range : Range → Range
bare_range x = record { high = bare_expression x.high; low = bare_expression x.low }

abbrev pub bare_shape : Shape → Shape
bare_shape x = record { signed = x.signed; range = option_map bare_range x.range }

abbrev pub bare_variable : Variable → Variable
bare_variable x = record { name = unplaced_name x.name; value = option_map bare_expression x.value }

abbrev pub bare_reg_variable : RegVariable → RegVariable
bare_reg_variable x = record {
  name = unplaced_name x.name;
  value = option_map bare_expression x.value;
  addresses = option_map bare_range x.addresses;
}

abbrev pub bare_parameter : Parameter → Parameter
bare_parameter x = record { name = unplaced_name x.name; value = bare_expression x.value }

abbrev pub bare_header_parameter : HeaderParameter → HeaderParameter
bare_header_parameter x = record { shape = option_map bare_shape x.shape; parameter = bare_parameter x.parameter }

abbrev pub bare_header_port : HeaderPort → HeaderPort
bare_header_port (port.Input at net x n) = port.Input no_place net (bare_shape x) (unplaced_name n)
bare_header_port (port.Output at net x y) = port.Output no_place net (bare_shape x) (bare_variable y)
bare_header_port (port.Next x) = port.Next (bare_variable x)

abbrev pub bare_ports : Ports → Ports
bare_ports (ports.Nothing) = ports.Nothing
bare_ports (ports.Names xs) = ports.Names (map unplaced_name xs)
bare_ports (ports.Declarations xs) = ports.Declarations (map bare_header_port xs)

-- ---- items

abbrev pub bare_named : NamedConnection → NamedConnection
bare_named x = record { at = no_place; name = unplaced_name x.name; value = option_map bare_expression x.value }

abbrev pub bare_ordered : OrderedConnection → OrderedConnection
bare_ordered x = record { at = no_place; value = option_map bare_expression x.value }

abbrev pub bare_connections : Connections → Connections
bare_connections (connections.Named xs) = connections.Named (map bare_named xs)
bare_connections (connections.Ordered xs) = connections.Ordered (map bare_ordered xs)

abbrev pub bare_instance : Instance → Instance
bare_instance x = record { name = unplaced_name x.name; connections = bare_connections x.connections }

abbrev pub bare_continuous : Continuous → Continuous
bare_continuous x = record { target = bare_target x.target; value = bare_expression x.value }

abbrev pub bare_plain_item : PlainItem → PlainItem
bare_plain_item (plain.Wire at x ys) = plain.Wire no_place (bare_shape x) (map bare_variable ys)
bare_plain_item (plain.Reg at x ys) = plain.Reg no_place (bare_shape x) (map bare_reg_variable ys)
bare_plain_item (plain.LocalParameter at x ys) = plain.LocalParameter no_place (bare_shape x) (map bare_parameter ys)
bare_plain_item (plain.Genvar at xs) = plain.Genvar no_place (map unplaced_name xs)
bare_plain_item (plain.Assign at xs) = plain.Assign no_place (map bare_continuous xs)
bare_plain_item (plain.Combinational at x) = plain.Combinational no_place (bare_statement x)
bare_plain_item (plain.Clocked at n x) = plain.Clocked no_place (unplaced_name n) (bare_statement x)
bare_plain_item (plain.Instances n x ys) =
    plain.Instances (unplaced_name n) (option_map bare_connections x) (map bare_instance ys)

abbrev pub bare_loop : Loop → Loop
bare_loop x = record {
  start = bare_parameter x.start;
  condition = bare_expression x.condition;
  step = bare_parameter x.step;
}

-- one item, where those in it have no places
abbrev pub generate_item_step : GenerateItem-F GenerateItem Branch → GenerateItem
generate_item_step (GenerateItem-F.Plain x) = generate.Plain (bare_plain_item x)
generate_item_step (GenerateItem-F.For at x n ys) = generate.For no_place (bare_loop x) (unplaced_name n) ys
generate_item_step (GenerateItem-F.If xs) = generate.If xs

abbrev pub branch_step : Branch-F GenerateItem Branch → Branch
branch_step x = record {
  at = no_place;
  condition = option_map bare_expression x.condition;
  label = unplaced_name x.label;
  items = x.items;
}

abbrev pub bare_generate_item : GenerateItem → GenerateItem
bare_generate_item = fold-GenerateItem GenerateItem Branch generate_item_step branch_step

abbrev pub bare_branch : Branch → Branch
bare_branch = fold-Branch GenerateItem Branch generate_item_step branch_step

abbrev pub bare_item : Item → Item
bare_item (item.Input at net x ns) = item.Input no_place net (bare_shape x) (map unplaced_name ns)
bare_item (item.Output at net x ys) = item.Output no_place net (bare_shape x) (map bare_variable ys)
bare_item (item.Parameter at x ys) = item.Parameter no_place (bare_shape x) (map bare_parameter ys)
bare_item (item.Region at xs) = item.Region no_place (map bare_generate_item xs)
bare_item (item.Item x) = item.Item (bare_generate_item x)

abbrev pub bare_body : ModuleBody → ModuleBody
bare_body x = record {
  name = unplaced_name x.name;
  parameters = map bare_header_parameter x.parameters;
  ports = bare_ports x.ports;
  items = map bare_item x.items;
}

-- ---- tokens

abbrev pub bare_token : Token → Token
bare_token t = record { kind = t.kind; at = no_place; text = t.text; literal = t.literal }

abbrev pub bare_tokens : List Token → List Token
bare_tokens s = map bare_token s
