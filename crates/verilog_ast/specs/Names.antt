-- The names that stand in a tree, in the order of the text.
use Rattle.std.specs.Prelude.{List, [], ◌∷◌, ◌++◌, Option, Some, None, map, flat_map}
use Rattle.ls_text.specs.declared.name_id.NameId.{NameId}
use Rattle.verilog_ast.specs.declared.identifier.Identifier.{Identifier}
use Rattle.verilog_ast.specs.declared.expression.Expr.{Expr}
use Rattle.verilog_ast.specs.declared.expression.Expr.TheOpen.{Expr-F, Reference-F}
use Rattle.verilog_ast.specs.declared.expression.Expr.TheFolds.{fold-Expr, fold-Reference}
use Rattle.verilog_ast.specs.declared.expression.Reference.{Reference}
use Rattle.verilog_ast.specs.declared.target.Lhs.{Lhs}
use Rattle.verilog_ast.specs.declared.target.Lhs.TheOpen.{Lhs-F}
use Rattle.verilog_ast.specs.declared.target.Lhs.TheFolds.{fold-Lhs}
use Rattle.verilog_ast.specs.declared.label.Label.{Label}
use Rattle.verilog_ast.specs.declared.label.Label.TheVariants as label
use Rattle.verilog_ast.specs.declared.statement.Stmt.{Stmt}
use Rattle.verilog_ast.specs.declared.statement.Arm.{Arm}
use Rattle.verilog_ast.specs.declared.statement.Arm.TheOpen.{Stmt-F, Arm-F}
use Rattle.verilog_ast.specs.declared.statement.Arm.TheFolds.{fold-Stmt, fold-Arm}
use Rattle.verilog_ast.specs.declared.range.Range.{Range}
use Rattle.verilog_ast.specs.declared.shape.Shape.{Shape}
use Rattle.verilog_ast.specs.declared.variable.Variable.{Variable}
use Rattle.verilog_ast.specs.declared.reg_variable.RegVariable.{RegVariable}
use Rattle.verilog_ast.specs.declared.parameter.Parameter.{Parameter}
use Rattle.verilog_ast.specs.declared.header_parameter.HeaderParameter.{HeaderParameter}
use Rattle.verilog_ast.specs.declared.header_port.HeaderPort.{HeaderPort}
use Rattle.verilog_ast.specs.declared.header_port.HeaderPort.TheVariants as port
use Rattle.verilog_ast.specs.declared.ports.Ports.{Ports}
use Rattle.verilog_ast.specs.declared.ports.Ports.TheVariants as ports
use Rattle.verilog_ast.specs.declared.named_connection.NamedConnection.{NamedConnection}
use Rattle.verilog_ast.specs.declared.ordered_connection.OrderedConnection.{OrderedConnection}
use Rattle.verilog_ast.specs.declared.connections.Connections.{Connections}
use Rattle.verilog_ast.specs.declared.connections.Connections.TheVariants as connections
use Rattle.verilog_ast.specs.declared.instance.Instance.{Instance}
use Rattle.verilog_ast.specs.declared.continuous.Continuous.{Continuous}
use Rattle.verilog_ast.specs.declared.generate_loop.Loop.{Loop}
use Rattle.verilog_ast.specs.declared.plain_item.PlainItem.{PlainItem}
use Rattle.verilog_ast.specs.declared.plain_item.PlainItem.TheVariants as plain
use Rattle.verilog_ast.specs.declared.generate_item.Branch.{Branch}
use Rattle.verilog_ast.specs.declared.generate_item.GenerateItem.{GenerateItem}
use Rattle.verilog_ast.specs.declared.generate_item.GenerateItem.TheOpen.{GenerateItem-F, Branch-F}
use Rattle.verilog_ast.specs.declared.generate_item.GenerateItem.TheFolds.{fold-GenerateItem, fold-Branch}
use Rattle.verilog_ast.specs.declared.item.Item.{Item}
use Rattle.verilog_ast.specs.declared.item.Item.TheVariants as item
use Rattle.verilog_ast.specs.declared.module_body.ModuleBody.{ModuleBody}
use Rattle.verilog_ast.specs.declared.module.Module.{Module}

-- the names of some parts, one after another
abbrev pub joined : List (List NameId) → List NameId
joined [] = []
joined (x ∷ xs) = x ++ joined xs

-- the names of a part that may be absent
abbrev pub names_of_option : {A : Type 0} → (A → List NameId) → Option A → List NameId
names_of_option names_of None = []
names_of_option names_of (Some x) = names_of x

abbrev pub names_of_identifiers : List Identifier → List NameId
names_of_identifiers xs = map (λ (x : Identifier). x.name) xs

-- ---- expressions

-- a name with its select, with the names of the select's expressions in their place
abbrev pub reference_names : Reference-F (List NameId) (List NameId) → List NameId
reference_names (Reference-F.Whole n) = n.name ∷ []
reference_names (Reference-F.Bit n x) = n.name ∷ x
reference_names (Reference-F.Part n x y) = n.name ∷ (x ++ y)
reference_names (Reference-F.Upward n x y) = n.name ∷ (x ++ y)
reference_names (Reference-F.Downward n x y) = n.name ∷ (x ++ y)

-- an expression, with the names of its parts in their place
abbrev pub expression_names : Expr-F (List NameId) (List NameId) → List NameId
expression_names (Expr-F.Number at x) = []
expression_names (Expr-F.Read x) = x
expression_names (Expr-F.Unary at op x) = x
expression_names (Expr-F.Binary op x y) = x ++ y
expression_names (Expr-F.Conditional x y z) = x ++ (y ++ z)
expression_names (Expr-F.Concatenation at xs) = joined xs
expression_names (Expr-F.Replication at x ys) = x ++ joined ys
expression_names (Expr-F.Bracketed at x) = x

abbrev pub names_of_expression : Expr → List NameId
names_of_expression = fold-Expr (List NameId) (List NameId) expression_names reference_names

abbrev pub names_of_reference : Reference → List NameId
names_of_reference = fold-Reference (List NameId) (List NameId) expression_names reference_names

abbrev pub target_names : Lhs-F (List NameId) → List NameId
target_names (Lhs-F.Reference x) = names_of_reference x
target_names (Lhs-F.Concatenation at xs) = joined xs

abbrev pub names_of_target : Lhs → List NameId
names_of_target = fold-Lhs (List NameId) target_names

-- ---- statements

abbrev pub names_of_label : Label → List NameId
names_of_label (label.Pattern at x) = []
names_of_label (label.Expr x) = names_of_expression x

abbrev pub names_of_optional_label : Option Identifier → List NameId
names_of_optional_label x = names_of_option (λ (n : Identifier). n.name ∷ []) x

-- a statement, with the names of its statements and arms in their place
abbrev pub statement_names : Stmt-F (List NameId) (List NameId) → List NameId
statement_names (Stmt-F.Block at l xs) = names_of_optional_label l ++ joined xs
statement_names (Stmt-F.If at x y) = names_of_expression x ++ y
statement_names (Stmt-F.IfElse at x y z) = names_of_expression x ++ (y ++ z)
statement_names (Stmt-F.Case at which x ys) = names_of_expression x ++ joined ys
statement_names (Stmt-F.Assign x y) = names_of_target x ++ names_of_expression y
statement_names (Stmt-F.Empty at) = []

-- the same of an arm
abbrev pub arm_names : Arm-F (List NameId) (List NameId) → List NameId
arm_names (Arm-F.Default at x) = x
arm_names (Arm-F.Match ls x) = flat_map names_of_label ls ++ x

abbrev pub names_of_statement : Stmt → List NameId
names_of_statement = fold-Stmt (List NameId) (List NameId) arm_names statement_names

abbrev pub names_of_arm : Arm → List NameId
names_of_arm = fold-Arm (List NameId) (List NameId) arm_names statement_names

-- ---- declarations

abbrev pub names_of_range : Range → List NameId
names_of_range x = names_of_expression x.high ++ names_of_expression x.low

abbrev pub names_of_shape : Shape → List NameId
names_of_shape x = names_of_option names_of_range x.range

abbrev pub names_of_variable : Variable → List NameId
names_of_variable x = x.name.name ∷ names_of_option names_of_expression x.value

abbrev pub names_of_reg_variable : RegVariable → List NameId
names_of_reg_variable x = x.name.name ∷ (names_of_option names_of_range x.addresses ++ names_of_option names_of_expression x.value)

abbrev pub names_of_parameter : Parameter → List NameId
names_of_parameter x = x.name.name ∷ names_of_expression x.value

abbrev pub names_of_header_parameter : HeaderParameter → List NameId
names_of_header_parameter x = names_of_option names_of_shape x.shape ++ names_of_parameter x.parameter

abbrev pub names_of_header_port : HeaderPort → List NameId
names_of_header_port (port.Input at net x n) = names_of_shape x ++ (n.name ∷ [])
names_of_header_port (port.Output at net x y) = names_of_shape x ++ names_of_variable y
names_of_header_port (port.Next x) = names_of_variable x

abbrev pub names_of_ports : Ports → List NameId
names_of_ports ports.Nothing = []
names_of_ports (ports.Names xs) = names_of_identifiers xs
names_of_ports (ports.Declarations xs) = flat_map names_of_header_port xs

-- ---- items

abbrev pub names_of_named : NamedConnection → List NameId
names_of_named x = x.name.name ∷ names_of_option names_of_expression x.value

abbrev pub names_of_ordered : OrderedConnection → List NameId
names_of_ordered x = names_of_option names_of_expression x.value

abbrev pub names_of_connections : Connections → List NameId
names_of_connections (connections.Named xs) = flat_map names_of_named xs
names_of_connections (connections.Ordered xs) = flat_map names_of_ordered xs

abbrev pub names_of_instance : Instance → List NameId
names_of_instance x = x.name.name ∷ names_of_connections x.connections

abbrev pub names_of_continuous : Continuous → List NameId
names_of_continuous x = names_of_target x.target ++ names_of_expression x.value

abbrev pub names_of_plain_item : PlainItem → List NameId
names_of_plain_item (plain.Wire at x ys) = names_of_shape x ++ flat_map names_of_variable ys
names_of_plain_item (plain.Reg at x ys) = names_of_shape x ++ flat_map names_of_reg_variable ys
names_of_plain_item (plain.LocalParameter at x ys) = names_of_shape x ++ flat_map names_of_parameter ys
names_of_plain_item (plain.Genvar at xs) = names_of_identifiers xs
names_of_plain_item (plain.Assign at xs) = flat_map names_of_continuous xs
names_of_plain_item (plain.Combinational at x) = names_of_statement x
names_of_plain_item (plain.Clocked at n x) = n.name ∷ names_of_statement x
names_of_plain_item (plain.Instances n x ys) = n.name ∷ (names_of_option names_of_connections x ++ flat_map names_of_instance ys)

abbrev pub names_of_loop : Loop → List NameId
names_of_loop x = names_of_parameter x.start ++ (names_of_expression x.condition ++ names_of_parameter x.step)

-- an item of a generate block, with the names of its items and branches in their place
abbrev pub generate_item_names : GenerateItem-F (List NameId) (List NameId) → List NameId
generate_item_names (GenerateItem-F.Plain x) = names_of_plain_item x
generate_item_names (GenerateItem-F.For at x n ys) = names_of_loop x ++ (n.name ∷ joined ys)
generate_item_names (GenerateItem-F.If xs) = joined xs

-- the same of a branch
abbrev pub branch_names : Branch-F (List NameId) (List NameId) → List NameId
branch_names x = names_of_option names_of_expression x.condition ++ (x.label.name ∷ joined x.items)

abbrev pub names_of_generate_item : GenerateItem → List NameId
names_of_generate_item = fold-GenerateItem (List NameId) (List NameId) generate_item_names branch_names

abbrev pub names_of_branch : Branch → List NameId
names_of_branch = fold-Branch (List NameId) (List NameId) generate_item_names branch_names

abbrev pub names_of_item : Item → List NameId
names_of_item (item.Input at net x ns) = names_of_shape x ++ names_of_identifiers ns
names_of_item (item.Output at net x ys) = names_of_shape x ++ flat_map names_of_variable ys
names_of_item (item.Parameter at x ys) = names_of_shape x ++ flat_map names_of_parameter ys
names_of_item (item.Region at xs) = flat_map names_of_generate_item xs
names_of_item (item.Item x) = names_of_generate_item x

-- ---- modules

abbrev pub names_of_body : ModuleBody → List NameId
names_of_body x = x.name.name ∷ (flat_map names_of_header_parameter x.parameters ++ (names_of_ports x.ports ++ flat_map names_of_item x.items))

abbrev pub names_of_modules : List Module → List NameId
names_of_modules xs = flat_map (λ (x : Module). names_of_body x.body) xs
