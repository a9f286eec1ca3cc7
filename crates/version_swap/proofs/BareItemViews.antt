-- What items and modules without places are as plain data is what they are, without them.
use Rattle.std.proofs.Common.{◌≡◌, ◌∙◌, List, [], ◌∷◌, Option, map, refl, sym, ap, ap₂, subst}
use Rattle.std.specs.Option.{option_map}
use Rattle.ls_text.proofs.Lists.{map_so}
use Rattle.verilog_ast.specs.Places.{no_place}
use Rattle.verilog_ast.specs.declared.range.Range.{Range}
use Rattle.verilog_ast.specs.declared.shape.Shape.{Shape}
use Rattle.verilog_ast.specs.declared.variable.Variable.{Variable}
use Rattle.verilog_ast.specs.declared.reg_variable.RegVariable.{RegVariable}
use Rattle.verilog_ast.specs.declared.parameter.Parameter.{Parameter}
use Rattle.verilog_ast.specs.declared.header_parameter.HeaderParameter.{HeaderParameter}
use Rattle.verilog_ast.specs.declared.header_port.HeaderPort.{HeaderPort}
use Rattle.verilog_ast.specs.declared.header_port.HeaderPort.TheVariants as port
use Rattle.verilog_ast.specs.declared.ports.Ports.{Ports}
use Rattle.verilog_ast.specs.declared.ports.Ports.TheVariants as ports
use Rattle.verilog_ast.specs.declared.named_connection.NamedConnection.{NamedConnection}
use Rattle.verilog_ast.specs.declared.ordered_connection.OrderedConnection.{OrderedConnection}
use Rattle.verilog_ast.specs.declared.connections.Connections.{Connections}
use Rattle.verilog_ast.specs.declared.connections.Connections.TheVariants as connections
use Rattle.verilog_ast.specs.declared.instance.Instance.{Instance}
use Rattle.verilog_ast.specs.declared.continuous.Continuous.{Continuous}
use Rattle.verilog_ast.specs.declared.generate_loop.Loop.{Loop}
use Rattle.verilog_ast.specs.declared.plain_item.PlainItem.{PlainItem}
use Rattle.verilog_ast.specs.declared.plain_item.PlainItem.TheVariants as plain
use Rattle.verilog_ast.specs.declared.generate_item.Branch.{Branch, roll-Branch}
use Rattle.verilog_ast.specs.declared.generate_item.GenerateItem.{GenerateItem, roll-GenerateItem}
use Rattle.verilog_ast.specs.declared.generate_item.GenerateItem.TheVariants as g
use Rattle.verilog_ast.specs.declared.generate_item.GenerateItem.TheOpen.{GenerateItem-F, Branch-F}
use Rattle.verilog_ast.specs.declared.generate_item.GenerateItem.TheFolds.{fold-roll-GenerateItem, fold_out-Branch, ind-GenerateItem, map-GenerateItem, map-Branch}
use Rattle.verilog_ast.specs.declared.item.Item.{Item}
use Rattle.verilog_ast.specs.declared.item.Item.TheVariants as item
use Rattle.verilog_ast.specs.declared.module_body.ModuleBody.{ModuleBody}
use Rattle.verilog_ast.specs.declared.expression.Expr.{Expr}
use Rattle.verilog_ast.specs.Expressions.{Expression, Target}
use Rattle.verilog_ast.specs.Declarations as d
use Rattle.verilog_ast.specs.Declarations.{RangeBounds, Kind, Declared, DeclaredReg, ParameterAssignment, HeaderParameterDeclaration, PortDeclaration, PortList}
use Rattle.verilog_ast.specs.Items as i
use Rattle.verilog_ast.specs.Items.{ConnectionByName, ConnectionByOrder, ConnectionList, ModuleInstance, ContinuousAssignment, LoopHead, ModuleItem, ModuleDeclaration}
use Rattle.version_swap.proofs.BareForms.{bare_expression, bare_range, bare_shape, bare_variable, bare_reg_variable, bare_parameter, bare_header_parameter, bare_header_port, bare_ports, bare_named, bare_ordered, bare_connections, bare_instance, bare_continuous, bare_plain_item, bare_loop, generate_item_step, branch_step, bare_generate_item, bare_branch, bare_item, bare_body}
use Rattle.verilog_ast.specs.Views.{expression_of, range_of, kind_of, declared_of, declared_reg_of, parameter_of, header_parameter_of, port_of, ports_of, by_name_of, by_order_of, connections_of, instance_of, assignment_of, plain_item_of, head_of, items_of, generate_item_view, branch_view, generate_item_of, branch_of, item_of, declaration_of}
use Rattle.version_swap.specs.Unplaced.{unplaced_name, unplaced_expression, unplaced_range, unplaced_kind, unplaced_declared, unplaced_declared_reg, unplaced_parameter, unplaced_header_parameter, unplaced_port, unplaced_ports, unplaced_by_name, unplaced_by_order, unplaced_connections, unplaced_instance, unplaced_assignment, unplaced_head, unplaced_item, unplaced_declaration}
use Rattle.verilog_ast.proofs.Equal.{ap₃}
use Rattle.verilog_ast.proofs.RenamedViews.{same_option}
use Rattle.version_swap.proofs.BareViews.{same_expression, same_target}
use Rattle.version_swap.proofs.BareStatementViews.{same_statement}

-- ---- declarations

same_range : (x : Range) → range_of (bare_range x) ≡ unplaced_range (range_of x)
same_range x = ap₂ (λ (y z : Expression). record { high = y; low = z }) (same_expression x.high) (same_expression x.low)

same_kind : (x : Shape) → kind_of (bare_shape x) ≡ unplaced_kind (kind_of x)
same_kind x = ap (λ (y : Option RangeBounds). record { signed = x.signed; range = y })
    (same_option range_of bare_range unplaced_range same_range x.range)

same_value : (x : Option Expr) → option_map expression_of (option_map bare_expression x) ≡ option_map unplaced_expression (option_map expression_of x)
same_value x = same_option expression_of bare_expression unplaced_expression same_expression x

same_declared : (x : Variable) → declared_of (bare_variable x) ≡ unplaced_declared (declared_of x)
same_declared x = ap (λ (y : Option Expression). record { name = unplaced_name x.name; value = y }) (same_value x.value)

same_declared_reg : (x : RegVariable) → declared_reg_of (bare_reg_variable x) ≡ unplaced_declared_reg (declared_reg_of x)
same_declared_reg x =
    ap₂ (λ (y : Option Expression) (z : Option RangeBounds). record { name = unplaced_name x.name; value = y; addresses = z })
    (same_value x.value) (same_option range_of bare_range unplaced_range same_range x.addresses)

same_parameter : (x : Parameter) → parameter_of (bare_parameter x) ≡ unplaced_parameter (parameter_of x)
same_parameter x = ap (λ (y : Expression). record { name = unplaced_name x.name; value = y }) (same_expression x.value)

same_header_parameter : (x : HeaderParameter) → header_parameter_of (bare_header_parameter x) ≡ unplaced_header_parameter (header_parameter_of x)
same_header_parameter x =
    ap₂ (λ (y : Option Kind) (z : ParameterAssignment). record { kind = y; parameter = z })
    (same_option kind_of bare_shape unplaced_kind same_kind x.shape) (same_parameter x.parameter)

same_port : (x : HeaderPort) → port_of (bare_header_port x) ≡ unplaced_port (port_of x)
same_port (port.Input at net x n) = ap (λ (y : Kind). d.InputPort no_place net y (unplaced_name n)) (same_kind x)
same_port (port.Output at net x y) = ap₂ (d.OutputPort no_place net) (same_kind x) (same_declared y)
same_port (port.Next x) = ap d.NextPort (same_declared x)

same_ports : (x : Ports) → ports_of (bare_ports x) ≡ unplaced_ports (ports_of x)
same_ports ports.Nothing = refl
same_ports (ports.Names xs) = refl
same_ports (ports.Declarations xs) = ap d.DeclaredPorts (map_so port_of bare_header_port unplaced_port same_port xs)

-- ---- items

same_by_name : (x : NamedConnection) → by_name_of (bare_named x) ≡ unplaced_by_name (by_name_of x)
same_by_name x = ap (λ (y : Option Expression). record { at = no_place; name = unplaced_name x.name; value = y }) (same_value x.value)

same_by_order : (x : OrderedConnection) → by_order_of (bare_ordered x) ≡ unplaced_by_order (by_order_of x)
same_by_order x = ap (λ (y : Option Expression). record { at = no_place; value = y }) (same_value x.value)

same_connections : (x : Connections) → connections_of (bare_connections x) ≡ unplaced_connections (connections_of x)
same_connections (connections.Named xs) = ap i.ByName (map_so by_name_of bare_named unplaced_by_name same_by_name xs)
same_connections (connections.Ordered xs) = ap i.ByOrder (map_so by_order_of bare_ordered unplaced_by_order same_by_order xs)

same_instance : (x : Instance) → instance_of (bare_instance x) ≡ unplaced_instance (instance_of x)
same_instance x = ap (λ (y : ConnectionList). record { name = unplaced_name x.name; connections = y }) (same_connections x.connections)

same_assignment : (x : Continuous) → assignment_of (bare_continuous x) ≡ unplaced_assignment (assignment_of x)
same_assignment x = ap₂ (λ (y : Target) (z : Expression). record { target = y; value = z }) (same_target x.target) (same_expression x.value)

same_plain_item : (x : PlainItem) → plain_item_of (bare_plain_item x) ≡ unplaced_item (plain_item_of x)
same_plain_item (plain.Wire at x ys) = ap₂ (i.Wires no_place) (same_kind x) (map_so declared_of bare_variable unplaced_declared same_declared ys)
same_plain_item (plain.Reg at x ys) = ap₂ (i.Regs no_place) (same_kind x)
    (map_so declared_reg_of bare_reg_variable unplaced_declared_reg same_declared_reg ys)
same_plain_item (plain.LocalParameter at x ys) =
    ap₂ (i.LocalParameters no_place) (same_kind x) (map_so parameter_of bare_parameter unplaced_parameter same_parameter ys)
same_plain_item (plain.Genvar at xs) = refl
same_plain_item (plain.Assign at xs) = ap (i.Assigns no_place) (map_so assignment_of bare_continuous unplaced_assignment same_assignment xs)
same_plain_item (plain.Combinational at x) = ap (i.Combinational no_place) (same_statement x)
same_plain_item (plain.Clocked at n x) = ap (i.Clocked no_place (unplaced_name n)) (same_statement x)
same_plain_item (plain.Instances n x ys) =
    ap₂ (i.Instances (unplaced_name n)) (same_option connections_of bare_connections unplaced_connections same_connections x)
    (map_so instance_of bare_instance unplaced_instance same_instance ys)

same_head : (x : Loop) → head_of (bare_loop x) ≡ unplaced_head (head_of x)
same_head x =
    ap₃ (λ (a : ParameterAssignment) (b : Expression) (c : ParameterAssignment). record { start = a; condition = b; step = c })
    (same_parameter x.start) (same_expression x.condition) (same_parameter x.step)

-- ---- items of generate blocks, by layers

abbrev SameItem : GenerateItem → Type 0
SameItem x = generate_item_of (bare_generate_item x) ≡ unplaced_item (generate_item_of x)

abbrev SameBranch : Branch → Type 0
SameBranch x = branch_of (bare_branch x) ≡ unplaced_item (branch_of x)

abbrev placeless_item : GenerateItem-F GenerateItem Branch → GenerateItem-F GenerateItem Branch
placeless_item (GenerateItem-F.Plain x) = GenerateItem-F.Plain (bare_plain_item x)
placeless_item (GenerateItem-F.For at x n ys) = GenerateItem-F.For no_place (bare_loop x) (unplaced_name n) ys
placeless_item (GenerateItem-F.If xs) = GenerateItem-F.If xs

item_rolls : (l : GenerateItem-F GenerateItem Branch) → roll-GenerateItem (placeless_item l) ≡ generate_item_step l
item_rolls (GenerateItem-F.Plain x) = g.rolls-Plain (bare_plain_item x)
item_rolls (GenerateItem-F.For at x n ys) = g.rolls-For no_place (bare_loop x) (unplaced_name n) ys
item_rolls (GenerateItem-F.If xs) = g.rolls-If xs

abbrev bare_layer : GenerateItem-F GenerateItem Branch → GenerateItem-F GenerateItem Branch
bare_layer l = placeless_item (map-GenerateItem GenerateItem Branch GenerateItem Branch bare_generate_item bare_branch l)

abbrev viewed_layer : GenerateItem-F GenerateItem Branch → ModuleItem
viewed_layer l = generate_item_view (map-GenerateItem GenerateItem Branch ModuleItem ModuleItem generate_item_of branch_of l)

item_layer : (l : GenerateItem-F GenerateItem Branch) → viewed_layer (bare_layer l) ≡ unplaced_item (viewed_layer l) → SameItem (roll-GenerateItem l)
item_layer l h =
    ap generate_item_of (fold-roll-GenerateItem GenerateItem Branch generate_item_step branch_step l
    ∙ sym (item_rolls (map-GenerateItem GenerateItem Branch GenerateItem Branch bare_generate_item bare_branch l)))
    ∙ fold-roll-GenerateItem ModuleItem ModuleItem generate_item_view branch_view (bare_layer l)
    ∙ h
    ∙ ap unplaced_item (sym (fold-roll-GenerateItem ModuleItem ModuleItem generate_item_view branch_view l))

same_items : (xs : List ((x : GenerateItem) × SameItem x))
    → items_of (map generate_item_of (map bare_generate_item (map (λ x. x.0) xs))) ≡ unplaced_item (items_of (map generate_item_of (map
    (λ x. x.0) xs)))
same_items [] = refl
same_items (x ∷ xs) = ap₂ i.Items x.1 (same_items xs)

same_branches : (xs : List ((x : Branch) × SameBranch x))
    → items_of (map branch_of (map bare_branch (map (λ x. x.0) xs))) ≡ unplaced_item (items_of (map branch_of (map (λ x. x.0) xs)))
same_branches [] = refl
same_branches (x ∷ xs) = ap₂ i.Items x.1 (same_branches xs)

item_node : (y : GenerateItem-F ((x : GenerateItem) × SameItem x) ((x : Branch) × SameBranch x))
    → SameItem (roll-GenerateItem (map-GenerateItem ((x : GenerateItem) × SameItem x) ((x : Branch) × SameBranch x) GenerateItem Branch (λ x. x.0)
    (λ x. x.0) y))
item_node (GenerateItem-F.Plain x) = item_layer (GenerateItem-F.Plain x) (same_plain_item x)
item_node (GenerateItem-F.For at x n ys) =
    item_layer (GenerateItem-F.For at x n (map (λ x. x.0) ys)) (ap₂ (λ (a : LoopHead) (b : ModuleItem). i.Loop no_place a (unplaced_name n) b)
    (same_head x) (same_items ys))
item_node (GenerateItem-F.If xs) = item_layer (GenerateItem-F.If (map (λ x. x.0) xs)) (ap i.Conditional (same_branches xs))

branch_layer : (x : Branch)
    → items_of (map generate_item_of (map bare_generate_item x.items)) ≡ unplaced_item (items_of (map generate_item_of x.items)) → SameBranch x
branch_layer x h =
    ap branch_of (fold_out-Branch GenerateItem Branch generate_item_step branch_step x)
    ∙ fold_out-Branch ModuleItem ModuleItem generate_item_view branch_view (record {
      at = no_place;
      condition = option_map bare_expression x.condition;
      label = unplaced_name x.label;
      items = map bare_generate_item x.items;
    })
    ∙ ap₂ (λ (c : Option Expression) (ys : ModuleItem). i.Branch no_place c (unplaced_name x.label) ys) (same_value x.condition) h
    ∙ ap unplaced_item (sym (fold_out-Branch ModuleItem ModuleItem generate_item_view branch_view x))

branch_node : (y : Branch-F ((x : GenerateItem) × SameItem x) ((x : Branch) × SameBranch x))
    → SameBranch (roll-Branch (map-Branch ((x : GenerateItem) × SameItem x) ((x : Branch) × SameBranch x) GenerateItem Branch (λ x. x.0)
    (λ x. x.0) y))
branch_node y = branch_layer (record { at = y.at; condition = y.condition; label = y.label; items = map (λ x. x.0) y.items }) (same_items y.items)

same_generate_item : (x : GenerateItem) → generate_item_of (bare_generate_item x) ≡ unplaced_item (generate_item_of x)
same_generate_item x = ind-GenerateItem (SameItem) (SameBranch) (λ x y is. subst (λ z. SameItem (roll-GenerateItem z)) is (item_node y))
    (λ x y is. subst (λ z. SameBranch (roll-Branch z)) is (branch_node y)) x

-- ---- modules

same_region : (xs : List GenerateItem)
    → items_of (map generate_item_of (map bare_generate_item xs)) ≡ unplaced_item (items_of (map generate_item_of xs))
same_region [] = refl
same_region (x ∷ xs) = ap₂ i.Items (same_generate_item x) (same_region xs)

same_item : (x : Item) → item_of (bare_item x) ≡ unplaced_item (item_of x)
same_item (item.Input at net x ns) = ap (λ (y : Kind). i.Inputs no_place net y (map unplaced_name ns)) (same_kind x)
same_item (item.Output at net x ys) = ap₂ (i.Outputs no_place net) (same_kind x)
    (map_so declared_of bare_variable unplaced_declared same_declared ys)
same_item (item.Parameter at x ys) = ap₂ (i.Parameters no_place) (same_kind x)
    (map_so parameter_of bare_parameter unplaced_parameter same_parameter ys)
same_item (item.Region at xs) = ap (i.Region no_place) (same_region xs)
same_item (item.Item x) = same_generate_item x

same_body_items : (xs : List Item) → items_of (map item_of (map bare_item xs)) ≡ unplaced_item (items_of (map item_of xs))
same_body_items [] = refl
same_body_items (x ∷ xs) = ap₂ i.Items (same_item x) (same_body_items xs)

pub same_declaration : (x : ModuleBody) → declaration_of (bare_body x) ≡ unplaced_declaration (declaration_of x)
same_declaration x =
    ap₃
    (λ (a : List HeaderParameterDeclaration) (b : PortList) (c : ModuleItem).
    record { name = unplaced_name x.name; parameters = a; ports = b; items = c })
    (map_so header_parameter_of bare_header_parameter unplaced_header_parameter same_header_parameter x.parameters)
    (same_ports x.ports) (same_body_items x.items)
