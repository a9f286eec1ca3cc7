-- Declarations, items and modules come back from the plain data that is their view, so a view loses nothing of them.
use Rattle.std.proofs.Common.{◌≡◌, ◌∙◌, List, [], ◌∷◌, Option, Some, None, map, refl, sym, ap, ap₂, subst}
use Rattle.std.specs.Option.{option_map}
use Rattle.verilog_ast.specs.declared.expression.Expr.{Expr}
use Rattle.verilog_ast.specs.declared.target.Lhs.{Lhs}
use Rattle.verilog_ast.specs.declared.range.Range.{Range}
use Rattle.verilog_ast.specs.declared.shape.Shape.{Shape}
use Rattle.verilog_ast.specs.declared.variable.Variable.{Variable}
use Rattle.verilog_ast.specs.declared.reg_variable.RegVariable.{RegVariable}
use Rattle.verilog_ast.specs.declared.parameter.Parameter.{Parameter}
use Rattle.verilog_ast.specs.declared.header_parameter.HeaderParameter.{HeaderParameter}
use Rattle.verilog_ast.specs.declared.header_port.HeaderPort.{HeaderPort}
use Rattle.verilog_ast.specs.declared.header_port.HeaderPort.TheVariants as port
use Rattle.verilog_ast.specs.declared.ports.Ports.{Ports}
use Rattle.verilog_ast.specs.declared.ports.Ports.TheVariants as ports
use Rattle.verilog_ast.specs.declared.named_connection.NamedConnection.{NamedConnection}
use Rattle.verilog_ast.specs.declared.ordered_connection.OrderedConnection.{OrderedConnection}
use Rattle.verilog_ast.specs.declared.connections.Connections.{Connections}
use Rattle.verilog_ast.specs.declared.connections.Connections.TheVariants as connections
use Rattle.verilog_ast.specs.declared.instance.Instance.{Instance}
use Rattle.verilog_ast.specs.declared.continuous.Continuous.{Continuous}
use Rattle.verilog_ast.specs.declared.generate_loop.Loop.{Loop}
use Rattle.verilog_ast.specs.declared.plain_item.PlainItem.{PlainItem}
use Rattle.verilog_ast.specs.declared.plain_item.PlainItem.TheVariants as plain
use Rattle.verilog_ast.specs.declared.generate_item.Branch.{Branch, roll-Branch}
use Rattle.verilog_ast.specs.declared.generate_item.GenerateItem.{GenerateItem, roll-GenerateItem, out-GenerateItem}
use Rattle.verilog_ast.specs.declared.generate_item.GenerateItem.TheOpen.{GenerateItem-F, Branch-F}
use Rattle.verilog_ast.specs.declared.generate_item.GenerateItem.TheFolds.{fold-roll-GenerateItem, fold_out-GenerateItem, fold_out-Branch, ind-GenerateItem, map-GenerateItem, map-Branch}
use Rattle.verilog_ast.specs.declared.item.Item.{Item}
use Rattle.verilog_ast.specs.declared.item.Item.TheVariants as item
use Rattle.verilog_ast.specs.declared.module_body.ModuleBody.{ModuleBody}
use Rattle.verilog_ast.specs.Declarations as d
use Rattle.verilog_ast.specs.Declarations.{RangeBounds, Kind, Declared, DeclaredReg, ParameterAssignment, HeaderParameterDeclaration, PortDeclaration, PortList}
use Rattle.verilog_ast.specs.Items as i
use Rattle.verilog_ast.specs.Items.{ConnectionByName, ConnectionByOrder, ConnectionList, ModuleInstance, ContinuousAssignment, LoopHead, ModuleItem, ModuleDeclaration}
use Rattle.verilog_ast.specs.Places.{no_place}
use Rattle.verilog_ast.specs.Views.{expression_of, range_of, kind_of, declared_of, declared_reg_of, parameter_of, header_parameter_of, port_of, ports_of, by_name_of, by_order_of, connections_of, instance_of, assignment_of, plain_item_of, head_of, items_of, generate_item_view, branch_view, generate_item_of, branch_of, item_of, declaration_of}
use Rattle.verilog_ast.proofs.Equal.{ap₃}
use Rattle.verilog_ast.proofs.BackExpressions.{expression_back, target_back, back_expression, back_target}
use Rattle.verilog_ast.proofs.BackStatements.{statement_back, back_statement, back_all}

-- what comes back of a value comes back of one that may be absent
back_option : {A B : Type 0} (view : A → B) (back : B → A) → ((x : A) → back (view x) ≡ x) → (x : Option A) → option_map back (option_map view x) ≡ x
back_option view back same None = refl
back_option view back same (Some x) = ap (λ y. Some y) (same x)

-- ---- declarations

abbrev range_back : RangeBounds → Range
range_back x = record { high = expression_back x.high; low = expression_back x.low }

abbrev shape_back : Kind → Shape
shape_back x = record { signed = x.signed; range = option_map range_back x.range }

abbrev variable_back : Declared → Variable
variable_back x = record { name = x.name; value = option_map expression_back x.value }

abbrev reg_variable_back : DeclaredReg → RegVariable
reg_variable_back x = record { name = x.name; value = option_map expression_back x.value; addresses = option_map range_back x.addresses }

abbrev parameter_back : ParameterAssignment → Parameter
parameter_back x = record { name = x.name; value = expression_back x.value }

abbrev header_parameter_back : HeaderParameterDeclaration → HeaderParameter
header_parameter_back x = record { shape = option_map shape_back x.kind; parameter = parameter_back x.parameter }

abbrev port_back : PortDeclaration → HeaderPort
port_back (d.InputPort at net x n) = port.Input at net (shape_back x) n
port_back (d.OutputPort at net x y) = port.Output at net (shape_back x) (variable_back y)
port_back (d.NextPort x) = port.Next (variable_back x)

abbrev ports_back : PortList → Ports
ports_back d.NoPorts = ports.Nothing
ports_back (d.NamedPorts xs) = ports.Names xs
ports_back (d.DeclaredPorts xs) = ports.Declarations (map port_back xs)

back_value : (x : Option Expr) → option_map expression_back (option_map expression_of x) ≡ x
back_value x = back_option expression_of expression_back back_expression x

back_range : (x : Range) → range_back (range_of x) ≡ x
back_range x = ap₂ (λ (a b : Expr). record { high = a; low = b }) (back_expression x.high) (back_expression x.low)

back_shape : (x : Shape) → shape_back (kind_of x) ≡ x
back_shape x = ap (λ (a : Option Range). record { signed = x.signed; range = a }) (back_option range_of range_back back_range x.range)

back_variable : (x : Variable) → variable_back (declared_of x) ≡ x
back_variable x = ap (λ (a : Option Expr). record { name = x.name; value = a }) (back_value x.value)

back_reg_variable : (x : RegVariable) → reg_variable_back (declared_reg_of x) ≡ x
back_reg_variable x =
    ap₂ (λ (a : Option Expr) (b : Option Range). record { name = x.name; value = a; addresses = b })
    (back_value x.value) (back_option range_of range_back back_range x.addresses)

back_parameter : (x : Parameter) → parameter_back (parameter_of x) ≡ x
back_parameter x = ap (λ (a : Expr). record { name = x.name; value = a }) (back_expression x.value)

back_header_parameter : (x : HeaderParameter) → header_parameter_back (header_parameter_of x) ≡ x
back_header_parameter x =
    ap₂ (λ (a : Option Shape) (b : Parameter). record { shape = a; parameter = b })
    (back_option kind_of shape_back back_shape x.shape) (back_parameter x.parameter)

back_port : (x : HeaderPort) → port_back (port_of x) ≡ x
back_port (port.Input at net x n) = ap (λ (a : Shape). port.Input at net a n) (back_shape x)
back_port (port.Output at net x y) = ap₂ (port.Output at net) (back_shape x) (back_variable y)
back_port (port.Next x) = ap port.Next (back_variable x)

back_ports : (x : Ports) → ports_back (ports_of x) ≡ x
back_ports ports.Nothing = refl
back_ports (ports.Names xs) = refl
back_ports (ports.Declarations xs) = ap ports.Declarations (back_all port_of port_back back_port xs)

-- ---- items without a generate construct

abbrev named_back : ConnectionByName → NamedConnection
named_back x = record { at = x.at; name = x.name; value = option_map expression_back x.value }

abbrev ordered_back : ConnectionByOrder → OrderedConnection
ordered_back x = record { at = x.at; value = option_map expression_back x.value }

abbrev connections_back : ConnectionList → Connections
connections_back (i.ByName xs) = connections.Named (map named_back xs)
connections_back (i.ByOrder xs) = connections.Ordered (map ordered_back xs)

abbrev instance_back : ModuleInstance → Instance
instance_back x = record { name = x.name; connections = connections_back x.connections }

abbrev continuous_back : ContinuousAssignment → Continuous
continuous_back x = record { target = target_back x.target; value = expression_back x.value }

abbrev loop_back : LoopHead → Loop
loop_back x = record { start = parameter_back x.start; condition = expression_back x.condition; step = parameter_back x.step }

-- of another item it gives a declaration of no genvar
abbrev plain_item_back : ModuleItem → PlainItem
plain_item_back (i.Wires at x ys) = plain.Wire at (shape_back x) (map variable_back ys)
plain_item_back (i.Regs at x ys) = plain.Reg at (shape_back x) (map reg_variable_back ys)
plain_item_back (i.LocalParameters at x ys) = plain.LocalParameter at (shape_back x) (map parameter_back ys)
plain_item_back (i.Genvars at xs) = plain.Genvar at xs
plain_item_back (i.Assigns at xs) = plain.Assign at (map continuous_back xs)
plain_item_back (i.Combinational at x) = plain.Combinational at (statement_back x)
plain_item_back (i.Clocked at n x) = plain.Clocked at n (statement_back x)
plain_item_back (i.Instances n x ys) = plain.Instances n (option_map connections_back x) (map instance_back ys)
plain_item_back _ = plain.Genvar no_place []

back_named : (x : NamedConnection) → named_back (by_name_of x) ≡ x
back_named x = ap (λ (a : Option Expr). record { at = x.at; name = x.name; value = a }) (back_value x.value)

back_ordered : (x : OrderedConnection) → ordered_back (by_order_of x) ≡ x
back_ordered x = ap (λ (a : Option Expr). record { at = x.at; value = a }) (back_value x.value)

back_connections : (x : Connections) → connections_back (connections_of x) ≡ x
back_connections (connections.Named xs) = ap connections.Named (back_all by_name_of named_back back_named xs)
back_connections (connections.Ordered xs) = ap connections.Ordered (back_all by_order_of ordered_back back_ordered xs)

back_instance : (x : Instance) → instance_back (instance_of x) ≡ x
back_instance x = ap (λ (a : Connections). record { name = x.name; connections = a }) (back_connections x.connections)

back_continuous : (x : Continuous) → continuous_back (assignment_of x) ≡ x
back_continuous x = ap₂ (λ (a : Lhs) (b : Expr). record { target = a; value = b }) (back_target x.target) (back_expression x.value)

back_loop : (x : Loop) → loop_back (head_of x) ≡ x
back_loop x =
    ap₃ (λ (a : Parameter) (b : Expr) (c : Parameter). record { start = a; condition = b; step = c })
    (back_parameter x.start) (back_expression x.condition) (back_parameter x.step)

back_plain_item : (x : PlainItem) → plain_item_back (plain_item_of x) ≡ x
back_plain_item (plain.Wire at x ys) = ap₂ (plain.Wire at) (back_shape x) (back_all declared_of variable_back back_variable ys)
back_plain_item (plain.Reg at x ys) = ap₂ (plain.Reg at) (back_shape x) (back_all declared_reg_of reg_variable_back back_reg_variable ys)
back_plain_item (plain.LocalParameter at x ys) = ap₂ (plain.LocalParameter at) (back_shape x) (back_all parameter_of parameter_back back_parameter ys)
back_plain_item (plain.Genvar at xs) = refl
back_plain_item (plain.Assign at xs) = ap (plain.Assign at) (back_all assignment_of continuous_back back_continuous xs)
back_plain_item (plain.Combinational at x) = ap (plain.Combinational at) (back_statement x)
back_plain_item (plain.Clocked at n x) = ap (plain.Clocked at n) (back_statement x)
back_plain_item (plain.Instances n x ys) =
    ap₂ (plain.Instances n) (back_option connections_of connections_back back_connections x) (back_all instance_of instance_back back_instance ys)

-- ---- items of generate blocks, by layers; of what is no item it gives one without branches

abbrev no_item : GenerateItem
no_item = roll-GenerateItem (GenerateItem-F.If [])

abbrev mutual
  generate_item_back : ModuleItem → GenerateItem
  generate_item_back (i.Loop at x n ys) = roll-GenerateItem (GenerateItem-F.For at (loop_back x) n (generate_items_back ys))
  generate_item_back (i.Conditional xs) = roll-GenerateItem (GenerateItem-F.If (branches_back xs))
  generate_item_back (i.Wires at x ys) = roll-GenerateItem (GenerateItem-F.Plain (plain_item_back (i.Wires at x ys)))
  generate_item_back (i.Regs at x ys) = roll-GenerateItem (GenerateItem-F.Plain (plain_item_back (i.Regs at x ys)))
  generate_item_back (i.LocalParameters at x ys) = roll-GenerateItem (GenerateItem-F.Plain (plain_item_back (i.LocalParameters at x ys)))
  generate_item_back (i.Genvars at xs) = roll-GenerateItem (GenerateItem-F.Plain (plain_item_back (i.Genvars at xs)))
  generate_item_back (i.Assigns at xs) = roll-GenerateItem (GenerateItem-F.Plain (plain_item_back (i.Assigns at xs)))
  generate_item_back (i.Combinational at x) = roll-GenerateItem (GenerateItem-F.Plain (plain_item_back (i.Combinational at x)))
  generate_item_back (i.Clocked at n x) = roll-GenerateItem (GenerateItem-F.Plain (plain_item_back (i.Clocked at n x)))
  generate_item_back (i.Instances n x ys) = roll-GenerateItem (GenerateItem-F.Plain (plain_item_back (i.Instances n x ys)))
  generate_item_back _ = no_item

  generate_items_back : ModuleItem → List GenerateItem
  generate_items_back (i.Items x xs) = generate_item_back x ∷ generate_items_back xs
  generate_items_back _ = []

  -- the branches, where each has a label
  branches_back : ModuleItem → List Branch
  branches_back (i.Items x xs) = branch_before x (branches_back xs)
  branches_back _ = []

  branch_before : ModuleItem → List Branch → List Branch
  branch_before (i.Branch at x n ys) rest =
      roll-Branch (record { at = at; condition = option_map expression_back x; label = n; items = generate_items_back ys }) ∷ rest
  branch_before _ rest = rest

plain_comes_back : (x : PlainItem) → generate_item_back (plain_item_of x) ≡ roll-GenerateItem (GenerateItem-F.Plain (plain_item_back (plain_item_of x)))
plain_comes_back (plain.Wire at x ys) = refl
plain_comes_back (plain.Reg at x ys) = refl
plain_comes_back (plain.LocalParameter at x ys) = refl
plain_comes_back (plain.Genvar at xs) = refl
plain_comes_back (plain.Assign at xs) = refl
plain_comes_back (plain.Combinational at x) = refl
plain_comes_back (plain.Clocked at n x) = refl
plain_comes_back (plain.Instances n x ys) = refl

abbrev ComesBack : GenerateItem → Type 0
ComesBack x = generate_item_back (generate_item_of x) ≡ x

abbrev BranchBack : Branch → Type 0
BranchBack x = (rest : List Branch) → branch_before (branch_of x) rest ≡ x ∷ rest

item_layer : (l : GenerateItem-F GenerateItem Branch)
    → generate_item_back (generate_item_view (map-GenerateItem GenerateItem Branch ModuleItem ModuleItem generate_item_of branch_of l)) ≡ roll-GenerateItem l
    → ComesBack (roll-GenerateItem l)
item_layer l h = ap generate_item_back (fold-roll-GenerateItem ModuleItem ModuleItem generate_item_view branch_view l) ∙ h

items_come_back : (xs : List ((x : GenerateItem) × ComesBack x)) → generate_items_back (items_of (map generate_item_of (map (λ x. x.0) xs))) ≡ map (λ x. x.0) xs
items_come_back [] = refl
items_come_back (x ∷ xs) = ap₂ (λ (y : GenerateItem) (ys : List GenerateItem). y ∷ ys) x.1 (items_come_back xs)

branches_come_back : (xs : List ((x : Branch) × BranchBack x)) → branches_back (items_of (map branch_of (map (λ x. x.0) xs))) ≡ map (λ x. x.0) xs
branches_come_back [] = refl
branches_come_back (x ∷ xs) =
    x.1 (branches_back (items_of (map branch_of (map (λ x. x.0) xs)))) ∙ ap (λ (ys : List Branch). x.0 ∷ ys) (branches_come_back xs)

item_node : (y : GenerateItem-F ((x : GenerateItem) × ComesBack x) ((x : Branch) × BranchBack x))
    → ComesBack (roll-GenerateItem (map-GenerateItem ((x : GenerateItem) × ComesBack x) ((x : Branch) × BranchBack x) GenerateItem Branch (λ x. x.0) (λ x. x.0) y))
item_node (GenerateItem-F.Plain x) =
    item_layer (GenerateItem-F.Plain x) (plain_comes_back x ∙ ap (λ (a : PlainItem). roll-GenerateItem (GenerateItem-F.Plain a)) (back_plain_item x))
item_node (GenerateItem-F.For at x n ys) =
    item_layer (GenerateItem-F.For at x n (map (λ x. x.0) ys))
    (ap₂ (λ (a : Loop) (bs : List GenerateItem). roll-GenerateItem (GenerateItem-F.For at a n bs)) (back_loop x) (items_come_back ys))
item_node (GenerateItem-F.If xs) =
    item_layer (GenerateItem-F.If (map (λ x. x.0) xs)) (ap (λ (bs : List Branch). roll-GenerateItem (GenerateItem-F.If bs)) (branches_come_back xs))

branch_layer : (x : Branch) → generate_items_back (items_of (map generate_item_of x.items)) ≡ x.items → BranchBack x
branch_layer x h rest =
    ap (λ (m : ModuleItem). branch_before m rest) (fold_out-Branch ModuleItem ModuleItem generate_item_view branch_view x)
    ∙ ap₂ (λ (a : Option Expr) (bs : List GenerateItem). roll-Branch (record { at = x.at; condition = a; label = x.label; items = bs }) ∷ rest)
    (back_value x.condition) h

branch_node : (y : Branch-F ((x : GenerateItem) × ComesBack x) ((x : Branch) × BranchBack x))
    → BranchBack (roll-Branch (map-Branch ((x : GenerateItem) × ComesBack x) ((x : Branch) × BranchBack x) GenerateItem Branch (λ x. x.0) (λ x. x.0) y))
branch_node y = branch_layer (record { at = y.at; condition = y.condition; label = y.label; items = map (λ x. x.0) y.items }) (items_come_back y.items)

back_generate_item : (x : GenerateItem) → generate_item_back (generate_item_of x) ≡ x
back_generate_item x = ind-GenerateItem ComesBack BranchBack (λ x y is. subst (λ z. ComesBack (roll-GenerateItem z)) is (item_node y))
    (λ x y is. subst (λ z. BranchBack (roll-Branch z)) is (branch_node y)) x

-- ---- modules

abbrev region_back : ModuleItem → List GenerateItem
region_back (i.Items x xs) = generate_item_back x ∷ region_back xs
region_back _ = []

abbrev item_back : ModuleItem → Item
item_back (i.Inputs at net x ns) = item.Input at net (shape_back x) ns
item_back (i.Outputs at net x ys) = item.Output at net (shape_back x) (map variable_back ys)
item_back (i.Parameters at x ys) = item.Parameter at (shape_back x) (map parameter_back ys)
item_back (i.Region at xs) = item.Region at (region_back xs)
item_back x = item.Item (generate_item_back x)

abbrev body_items_back : ModuleItem → List Item
body_items_back (i.Items x xs) = item_back x ∷ body_items_back xs
body_items_back _ = []

abbrev pub body_back : ModuleDeclaration → ModuleBody
body_back x = record {
  name = x.name;
  parameters = map header_parameter_back x.parameters;
  ports = ports_back x.ports;
  items = body_items_back x.items;
}

back_region : (xs : List GenerateItem) → region_back (items_of (map generate_item_of xs)) ≡ xs
back_region [] = refl
back_region (x ∷ xs) = ap₂ (λ (y : GenerateItem) (ys : List GenerateItem). y ∷ ys) (back_generate_item x) (back_region xs)

-- an item of a generate block is no other item of a module
outside : (l : GenerateItem-F ModuleItem ModuleItem) → item_back (generate_item_view l) ≡ item.Item (generate_item_back (generate_item_view l))
outside (GenerateItem-F.Plain (plain.Wire at x ys)) = refl
outside (GenerateItem-F.Plain (plain.Reg at x ys)) = refl
outside (GenerateItem-F.Plain (plain.LocalParameter at x ys)) = refl
outside (GenerateItem-F.Plain (plain.Genvar at xs)) = refl
outside (GenerateItem-F.Plain (plain.Assign at xs)) = refl
outside (GenerateItem-F.Plain (plain.Combinational at x)) = refl
outside (GenerateItem-F.Plain (plain.Clocked at n x)) = refl
outside (GenerateItem-F.Plain (plain.Instances n x ys)) = refl
outside (GenerateItem-F.For at x n ys) = refl
outside (GenerateItem-F.If xs) = refl

back_outside : (x : GenerateItem) → item_back (generate_item_of x) ≡ item.Item x
back_outside x =
    let is : generate_item_of x ≡ generate_item_view (map-GenerateItem GenerateItem Branch ModuleItem ModuleItem generate_item_of branch_of (out-GenerateItem x))
    = fold_out-GenerateItem ModuleItem ModuleItem generate_item_view branch_view x in
    ap item_back is
    ∙ outside (map-GenerateItem GenerateItem Branch ModuleItem ModuleItem generate_item_of branch_of (out-GenerateItem x))
    ∙ ap (λ (m : ModuleItem). item.Item (generate_item_back m)) (sym is)
    ∙ ap item.Item (back_generate_item x)

back_item : (x : Item) → item_back (item_of x) ≡ x
back_item (item.Input at net x ns) = ap (λ (a : Shape). item.Input at net a ns) (back_shape x)
back_item (item.Output at net x ys) = ap₂ (item.Output at net) (back_shape x) (back_all declared_of variable_back back_variable ys)
back_item (item.Parameter at x ys) = ap₂ (item.Parameter at) (back_shape x) (back_all parameter_of parameter_back back_parameter ys)
back_item (item.Region at xs) = ap (item.Region at) (back_region xs)
back_item (item.Item x) = back_outside x

back_body_items : (xs : List Item) → body_items_back (items_of (map item_of xs)) ≡ xs
back_body_items [] = refl
back_body_items (x ∷ xs) = ap₂ (λ (y : Item) (ys : List Item). y ∷ ys) (back_item x) (back_body_items xs)

pub back_body : (x : ModuleBody) → body_back (declaration_of x) ≡ x
back_body x =
    ap₃ (λ (a : List HeaderParameter) (b : Ports) (c : List Item). record { name = x.name; parameters = a; ports = b; items = c })
    (back_all header_parameter_of header_parameter_back back_header_parameter x.parameters) (back_ports x.ports) (back_body_items x.items)
