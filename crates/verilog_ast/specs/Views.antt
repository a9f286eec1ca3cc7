-- What trees of the code are as plain data.
use Rattle.std.specs.Prelude.{List, [], ◌∷◌, map}
use Rattle.std.specs.Option.{option_map}
use Rattle.verilog_ast.specs.declared.expression.Expr.{Expr}
use Rattle.verilog_ast.specs.declared.expression.Expr.TheOpen.{Expr-F, Reference-F}
use Rattle.verilog_ast.specs.declared.expression.Expr.TheFolds.{fold-Expr, fold-Reference}
use Rattle.verilog_ast.specs.declared.expression.Reference.{Reference}
use Rattle.verilog_ast.specs.declared.target.Lhs.{Lhs}
use Rattle.verilog_ast.specs.declared.target.Lhs.TheOpen.{Lhs-F}
use Rattle.verilog_ast.specs.declared.target.Lhs.TheFolds.{fold-Lhs}
use Rattle.verilog_ast.specs.declared.label.Label.{Label}
use Rattle.verilog_ast.specs.declared.label.Label.TheVariants as label
use Rattle.verilog_ast.specs.declared.statement.Stmt.{Stmt}
use Rattle.verilog_ast.specs.declared.statement.Arm.{Arm}
use Rattle.verilog_ast.specs.declared.statement.Arm.TheOpen.{Stmt-F, Arm-F}
use Rattle.verilog_ast.specs.declared.statement.Arm.TheFolds.{fold-Stmt, fold-Arm}
use Rattle.verilog_ast.specs.declared.range.Range.{Range}
use Rattle.verilog_ast.specs.declared.shape.Shape.{Shape}
use Rattle.verilog_ast.specs.declared.variable.Variable.{Variable}
use Rattle.verilog_ast.specs.declared.reg_variable.RegVariable.{RegVariable}
use Rattle.verilog_ast.specs.declared.parameter.Parameter.{Parameter}
use Rattle.verilog_ast.specs.declared.header_parameter.HeaderParameter.{HeaderParameter}
use Rattle.verilog_ast.specs.declared.header_port.HeaderPort.{HeaderPort}
use Rattle.verilog_ast.specs.declared.header_port.HeaderPort.TheVariants as port
use Rattle.verilog_ast.specs.declared.ports.Ports.{Ports}
use Rattle.verilog_ast.specs.declared.ports.Ports.TheVariants as ports
use Rattle.verilog_ast.specs.declared.named_connection.NamedConnection.{NamedConnection}
use Rattle.verilog_ast.specs.declared.ordered_connection.OrderedConnection.{OrderedConnection}
use Rattle.verilog_ast.specs.declared.connections.Connections.{Connections}
use Rattle.verilog_ast.specs.declared.connections.Connections.TheVariants as connections
use Rattle.verilog_ast.specs.declared.instance.Instance.{Instance}
use Rattle.verilog_ast.specs.declared.continuous.Continuous.{Continuous}
use Rattle.verilog_ast.specs.declared.generate_loop.Loop.{Loop}
use Rattle.verilog_ast.specs.declared.plain_item.PlainItem.{PlainItem}
use Rattle.verilog_ast.specs.declared.plain_item.PlainItem.TheVariants as plain
use Rattle.verilog_ast.specs.declared.generate_item.Branch.{Branch}
use Rattle.verilog_ast.specs.declared.generate_item.GenerateItem.{GenerateItem}
use Rattle.verilog_ast.specs.declared.generate_item.GenerateItem.TheOpen.{GenerateItem-F, Branch-F}
use Rattle.verilog_ast.specs.declared.generate_item.GenerateItem.TheFolds.{fold-GenerateItem, fold-Branch}
use Rattle.verilog_ast.specs.declared.item.Item.{Item}
use Rattle.verilog_ast.specs.declared.item.Item.TheVariants as item
use Rattle.verilog_ast.specs.declared.module_body.ModuleBody.{ModuleBody}
use Rattle.verilog_ast.specs.declared.module.Module.{Module}
use Rattle.verilog_ast.specs.Expressions as e
use Rattle.verilog_ast.specs.Expressions.{Expression, Target}
use Rattle.verilog_ast.specs.Statements as s
use Rattle.verilog_ast.specs.Statements.{CaseLabel, Statement}
use Rattle.verilog_ast.specs.Declarations as d
use Rattle.verilog_ast.specs.Declarations.{RangeBounds, Kind, Declared, DeclaredReg, ParameterAssignment, HeaderParameterDeclaration, PortDeclaration, PortList}
use Rattle.verilog_ast.specs.Items as i
use Rattle.verilog_ast.specs.Items.{ConnectionByName, ConnectionByOrder, ConnectionList, ModuleInstance, ContinuousAssignment, LoopHead, ModuleItem, ModuleDeclaration}

-- ---- expressions

abbrev pub parts_of : List Expression → Expression
parts_of [] = e.NoPart
parts_of (x ∷ xs) = e.Parts x (parts_of xs)

-- one expression, with what those in it are in their place
abbrev pub expression_view : Expr-F Expression Expression → Expression
expression_view (Expr-F.Number at x) = e.Literal at x
expression_view (Expr-F.Read x) = x
expression_view (Expr-F.Unary at op x) = e.Unary at op x
expression_view (Expr-F.Binary op x y) = e.Binary op x y
expression_view (Expr-F.Conditional x y z) = e.Conditional x y z
expression_view (Expr-F.Concatenation at xs) = e.Concatenation at (parts_of xs)
expression_view (Expr-F.Replication at x ys) = e.Replication at x (parts_of ys)
expression_view (Expr-F.Bracketed at x) = e.Bracketed at x

-- the same of a name with its select
abbrev pub reference_view : Reference-F Expression Expression → Expression
reference_view (Reference-F.Whole n) = e.Whole n
reference_view (Reference-F.Bit n x) = e.BitSelect n x
reference_view (Reference-F.Part n x y) = e.PartSelect n x y
reference_view (Reference-F.Upward n x y) = e.UpwardSelect n x y
reference_view (Reference-F.Downward n x y) = e.DownwardSelect n x y

abbrev pub expression_of : Expr → Expression
expression_of = fold-Expr Expression Expression expression_view reference_view

abbrev pub reference_of : Reference → Expression
reference_of = fold-Reference Expression Expression expression_view reference_view

abbrev pub targets_of : List Target → Target
targets_of [] = e.NoTarget
targets_of (x ∷ xs) = e.Targets x (targets_of xs)

abbrev pub target_view : Lhs-F Target → Target
target_view (Lhs-F.Reference x) = e.Reference (reference_of x)
target_view (Lhs-F.Concatenation at xs) = e.Joined at (targets_of xs)

abbrev pub target_of : Lhs → Target
target_of = fold-Lhs Target target_view

-- ---- statements

abbrev pub label_of : Label → CaseLabel
label_of (label.Pattern at x) = s.DontCare at x
label_of (label.Expr x) = s.Compared (expression_of x)

abbrev pub statements_of : List Statement → Statement
statements_of [] = s.NoStatement
statements_of (x ∷ xs) = s.Statements x (statements_of xs)

-- one statement, with what the statements and arms in it are in their place
abbrev pub statement_view : Stmt-F Statement Statement → Statement
statement_view (Stmt-F.Block at l xs) = s.Block at l (statements_of xs)
statement_view (Stmt-F.If at x y) = s.If at (expression_of x) y
statement_view (Stmt-F.IfElse at x y z) = s.IfElse at (expression_of x) y z
statement_view (Stmt-F.Case at which x ys) = s.Case at which (expression_of x) (statements_of ys)
statement_view (Stmt-F.Assign x y) = s.Assignment (target_of x) (expression_of y)
statement_view (Stmt-F.Empty at) = s.Null at

-- the same of an arm
abbrev pub arm_view : Arm-F Statement Statement → Statement
arm_view (Arm-F.Default at x) = s.Default at x
arm_view (Arm-F.Match ls x) = s.Match (map label_of ls) x

abbrev pub statement_of : Stmt → Statement
statement_of = fold-Stmt Statement Statement arm_view statement_view

abbrev pub arm_of : Arm → Statement
arm_of = fold-Arm Statement Statement arm_view statement_view

-- ---- declarations

abbrev pub range_of : Range → RangeBounds
range_of x = record { high = expression_of x.high; low = expression_of x.low }

abbrev pub kind_of : Shape → Kind
kind_of x = record { signed = x.signed; range = option_map range_of x.range }

abbrev pub declared_of : Variable → Declared
declared_of x = record { name = x.name; value = option_map expression_of x.value }

abbrev pub declared_reg_of : RegVariable → DeclaredReg
declared_reg_of x = record { name = x.name; value = option_map expression_of x.value; addresses = option_map range_of x.addresses }

abbrev pub parameter_of : Parameter → ParameterAssignment
parameter_of x = record { name = x.name; value = expression_of x.value }

abbrev pub header_parameter_of : HeaderParameter → HeaderParameterDeclaration
header_parameter_of x = record { kind = option_map kind_of x.shape; parameter = parameter_of x.parameter }

abbrev pub port_of : HeaderPort → PortDeclaration
port_of (port.Input at net x n) = d.InputPort at net (kind_of x) n
port_of (port.Output at net x y) = d.OutputPort at net (kind_of x) (declared_of y)
port_of (port.Next x) = d.NextPort (declared_of x)

abbrev pub ports_of : Ports → PortList
ports_of ports.Nothing = d.NoPorts
ports_of (ports.Names xs) = d.NamedPorts xs
ports_of (ports.Declarations xs) = d.DeclaredPorts (map port_of xs)

-- ---- items

abbrev pub by_name_of : NamedConnection → ConnectionByName
by_name_of x = record { at = x.at; name = x.name; value = option_map expression_of x.value }

abbrev pub by_order_of : OrderedConnection → ConnectionByOrder
by_order_of x = record { at = x.at; value = option_map expression_of x.value }

abbrev pub connections_of : Connections → ConnectionList
connections_of (connections.Named xs) = i.ByName (map by_name_of xs)
connections_of (connections.Ordered xs) = i.ByOrder (map by_order_of xs)

abbrev pub instance_of : Instance → ModuleInstance
instance_of x = record { name = x.name; connections = connections_of x.connections }

abbrev pub assignment_of : Continuous → ContinuousAssignment
assignment_of x = record { target = target_of x.target; value = expression_of x.value }

abbrev pub plain_item_of : PlainItem → ModuleItem
plain_item_of (plain.Wire at x ys) = i.Wires at (kind_of x) (map declared_of ys)
plain_item_of (plain.Reg at x ys) = i.Regs at (kind_of x) (map declared_reg_of ys)
plain_item_of (plain.LocalParameter at x ys) = i.LocalParameters at (kind_of x) (map parameter_of ys)
plain_item_of (plain.Genvar at xs) = i.Genvars at xs
plain_item_of (plain.Assign at xs) = i.Assigns at (map assignment_of xs)
plain_item_of (plain.Combinational at x) = i.Combinational at (statement_of x)
plain_item_of (plain.Clocked at n x) = i.Clocked at n (statement_of x)
plain_item_of (plain.Instances n x ys) = i.Instances n (option_map connections_of x) (map instance_of ys)

abbrev pub head_of : Loop → LoopHead
head_of x = record { start = parameter_of x.start; condition = expression_of x.condition; step = parameter_of x.step }

abbrev pub items_of : List ModuleItem → ModuleItem
items_of [] = i.NoItem
items_of (x ∷ xs) = i.Items x (items_of xs)

-- one item of a generate block, with what the items and branches in it are in their place
abbrev pub generate_item_view : GenerateItem-F ModuleItem ModuleItem → ModuleItem
generate_item_view (GenerateItem-F.Plain x) = plain_item_of x
generate_item_view (GenerateItem-F.For at x n ys) = i.Loop at (head_of x) n (items_of ys)
generate_item_view (GenerateItem-F.If xs) = i.Conditional (items_of xs)

-- the same of a branch
abbrev pub branch_view : Branch-F ModuleItem ModuleItem → ModuleItem
branch_view x = i.Branch x.at (option_map expression_of x.condition) x.label (items_of x.items)

abbrev pub generate_item_of : GenerateItem → ModuleItem
generate_item_of = fold-GenerateItem ModuleItem ModuleItem generate_item_view branch_view

abbrev pub branch_of : Branch → ModuleItem
branch_of = fold-Branch ModuleItem ModuleItem generate_item_view branch_view

abbrev pub item_of : Item → ModuleItem
item_of (item.Input at net x ns) = i.Inputs at net (kind_of x) ns
item_of (item.Output at net x ys) = i.Outputs at net (kind_of x) (map declared_of ys)
item_of (item.Parameter at x ys) = i.Parameters at (kind_of x) (map parameter_of ys)
item_of (item.Region at xs) = i.Region at (items_of (map generate_item_of xs))
item_of (item.Item x) = generate_item_of x

-- ---- modules

abbrev pub declaration_of : ModuleBody → ModuleDeclaration
declaration_of x = record {
  name = x.name;
  parameters = map header_parameter_of x.parameters;
  ports = ports_of x.ports;
  items = items_of (map item_of x.items);
}

abbrev pub declarations_of : List Module → List ModuleDeclaration
declarations_of xs = map (λ (x : Module). declaration_of x.body) xs
