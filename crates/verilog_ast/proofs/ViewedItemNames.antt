-- The names in a module are those in what it is as plain data.
use Rattle.std.proofs.Common.{◌≡◌, ◌∙◌, List, [], ◌∷◌, ◌++◌, Option, map, flat_map, refl, sym, ap, subst}
use Rattle.std.specs.Option.{option_map}
use Rattle.ls_text.specs.declared.name_id.NameId.{NameId}
use Rattle.ls_text.proofs.Lists.{joined_so}
use Rattle.verilog_ast.specs.declared.expression.Expr.{Expr}
use Rattle.verilog_ast.specs.declared.range.Range.{Range}
use Rattle.verilog_ast.specs.declared.shape.Shape.{Shape}
use Rattle.verilog_ast.specs.declared.variable.Variable.{Variable}
use Rattle.verilog_ast.specs.declared.reg_variable.RegVariable.{RegVariable}
use Rattle.verilog_ast.specs.declared.parameter.Parameter.{Parameter}
use Rattle.verilog_ast.specs.declared.header_parameter.HeaderParameter.{HeaderParameter}
use Rattle.verilog_ast.specs.declared.header_port.HeaderPort.{HeaderPort}
use Rattle.verilog_ast.specs.declared.header_port.HeaderPort.TheVariants as port
use Rattle.verilog_ast.specs.declared.ports.Ports.{Ports}
use Rattle.verilog_ast.specs.declared.ports.Ports.TheVariants as ports
use Rattle.verilog_ast.specs.declared.named_connection.NamedConnection.{NamedConnection}
use Rattle.verilog_ast.specs.declared.ordered_connection.OrderedConnection.{OrderedConnection}
use Rattle.verilog_ast.specs.declared.connections.Connections.{Connections}
use Rattle.verilog_ast.specs.declared.connections.Connections.TheVariants as connections
use Rattle.verilog_ast.specs.declared.instance.Instance.{Instance}
use Rattle.verilog_ast.specs.declared.continuous.Continuous.{Continuous}
use Rattle.verilog_ast.specs.declared.generate_loop.Loop.{Loop}
use Rattle.verilog_ast.specs.declared.plain_item.PlainItem.{PlainItem}
use Rattle.verilog_ast.specs.declared.plain_item.PlainItem.TheVariants as plain
use Rattle.verilog_ast.specs.declared.generate_item.Branch.{Branch, roll-Branch}
use Rattle.verilog_ast.specs.declared.generate_item.GenerateItem.{GenerateItem, roll-GenerateItem}
use Rattle.verilog_ast.specs.declared.generate_item.GenerateItem.TheOpen.{GenerateItem-F, Branch-F}
use Rattle.verilog_ast.specs.declared.generate_item.GenerateItem.TheFolds.{fold-roll-GenerateItem, fold_out-Branch, ind-GenerateItem, map-GenerateItem, map-Branch}
use Rattle.verilog_ast.specs.declared.item.Item.{Item}
use Rattle.verilog_ast.specs.declared.item.Item.TheVariants as item
use Rattle.verilog_ast.specs.declared.module_body.ModuleBody.{ModuleBody}
use Rattle.verilog_ast.specs.declared.module.Module.{Module}
use Rattle.verilog_ast.specs.Items.{ModuleItem}
use Rattle.verilog_ast.specs.Names.{joined, names_of_option, names_of_identifiers, names_of_expression, names_of_range, names_of_shape, names_of_variable, names_of_reg_variable, names_of_parameter, names_of_header_parameter, names_of_header_port, names_of_ports, names_of_named, names_of_ordered, names_of_connections, names_of_instance, names_of_continuous, names_of_plain_item, names_of_loop, generate_item_names, branch_names, names_of_generate_item, names_of_branch, names_of_item, names_of_body, names_of_modules}
use Rattle.verilog_ast.specs.NamesWithin.{names_in_expression, names_in_range, names_in_kind, names_in_declared, names_in_declared_reg, names_in_parameter, names_in_header_parameter, names_in_port, names_in_ports, names_in_by_name, names_in_by_order, names_in_connections, names_in_instance, names_in_assignment, names_in_head, names_in_item, names_in_declaration, names_in_modules}
use Rattle.verilog_ast.specs.Views.{expression_of, range_of, kind_of, declared_of, declared_reg_of, parameter_of, header_parameter_of, port_of, ports_of, by_name_of, by_order_of, connections_of, instance_of, assignment_of, plain_item_of, head_of, items_of, generate_item_view, branch_view, generate_item_of, branch_of, item_of, declaration_of}
use Rattle.verilog_ast.proofs.ViewedNames.{all_named, option_named, expression_named, target_named, statement_named}

-- ---- declarations

range_named : (x : Range) → names_of_range x ≡ names_in_range (range_of x)
range_named x = joined_so (expression_named x.high) (expression_named x.low)

kind_named : (x : Shape) → names_of_shape x ≡ names_in_kind (kind_of x)
kind_named x = option_named range_of names_of_range names_in_range range_named x.range

value_named : (x : Option Expr) → names_of_option names_of_expression x ≡ names_of_option names_in_expression (option_map expression_of x)
value_named x = option_named expression_of names_of_expression names_in_expression expression_named x

declared_named : (x : Variable) → names_of_variable x ≡ names_in_declared (declared_of x)
declared_named x = ap (λ a. x.name.name ∷ a) (value_named x.value)

declared_reg_named : (x : RegVariable) → names_of_reg_variable x ≡ names_in_declared_reg (declared_reg_of x)
declared_reg_named x =
    ap (λ a. x.name.name ∷ a) (joined_so (option_named range_of names_of_range names_in_range range_named x.addresses) (value_named x.value))

parameter_named : (x : Parameter) → names_of_parameter x ≡ names_in_parameter (parameter_of x)
parameter_named x = ap (λ a. x.name.name ∷ a) (expression_named x.value)

header_parameter_named : (x : HeaderParameter) → names_of_header_parameter x ≡ names_in_header_parameter (header_parameter_of x)
header_parameter_named x = joined_so (option_named kind_of names_of_shape names_in_kind kind_named x.shape) (parameter_named x.parameter)

port_named : (x : HeaderPort) → names_of_header_port x ≡ names_in_port (port_of x)
port_named (port.Input at net x n) = ap (λ a. a ++ (n.name ∷ [])) (kind_named x)
port_named (port.Output at net x y) = joined_so (kind_named x) (declared_named y)
port_named (port.Next x) = declared_named x

ports_named : (x : Ports) → names_of_ports x ≡ names_in_ports (ports_of x)
ports_named ports.Nothing = refl
ports_named (ports.Names xs) = refl
ports_named (ports.Declarations xs) = all_named port_of names_of_header_port names_in_port port_named xs

-- ---- items

by_name_named : (x : NamedConnection) → names_of_named x ≡ names_in_by_name (by_name_of x)
by_name_named x = ap (λ a. x.name.name ∷ a) (value_named x.value)

by_order_named : (x : OrderedConnection) → names_of_ordered x ≡ names_in_by_order (by_order_of x)
by_order_named x = value_named x.value

connections_named : (x : Connections) → names_of_connections x ≡ names_in_connections (connections_of x)
connections_named (connections.Named xs) = all_named by_name_of names_of_named names_in_by_name by_name_named xs
connections_named (connections.Ordered xs) = all_named by_order_of names_of_ordered names_in_by_order by_order_named xs

instance_named : (x : Instance) → names_of_instance x ≡ names_in_instance (instance_of x)
instance_named x = ap (λ a. x.name.name ∷ a) (connections_named x.connections)

assignment_named : (x : Continuous) → names_of_continuous x ≡ names_in_assignment (assignment_of x)
assignment_named x = joined_so (target_named x.target) (expression_named x.value)

plain_item_named : (x : PlainItem) → names_of_plain_item x ≡ names_in_item (plain_item_of x)
plain_item_named (plain.Wire at x ys) = joined_so (kind_named x) (all_named declared_of names_of_variable names_in_declared declared_named ys)
plain_item_named (plain.Reg at x ys) = joined_so (kind_named x) (all_named declared_reg_of names_of_reg_variable names_in_declared_reg declared_reg_named ys)
plain_item_named (plain.LocalParameter at x ys) = joined_so (kind_named x) (all_named parameter_of names_of_parameter names_in_parameter parameter_named ys)
plain_item_named (plain.Genvar at xs) = refl
plain_item_named (plain.Assign at xs) = all_named assignment_of names_of_continuous names_in_assignment assignment_named xs
plain_item_named (plain.Combinational at x) = statement_named x
plain_item_named (plain.Clocked at n x) = ap (λ a. n.name ∷ a) (statement_named x)
plain_item_named (plain.Instances n x ys) =
    ap (λ a. n.name ∷ a) (joined_so (option_named connections_of names_of_connections names_in_connections connections_named x)
    (all_named instance_of names_of_instance names_in_instance instance_named ys))

head_named : (x : Loop) → names_of_loop x ≡ names_in_head (head_of x)
head_named x = joined_so (parameter_named x.start) (joined_so (expression_named x.condition) (parameter_named x.step))

-- ---- items of generate blocks, by layers

abbrev Generated : GenerateItem → Type 0
Generated x = names_of_generate_item x ≡ names_in_item (generate_item_of x)

abbrev Branched : Branch → Type 0
Branched x = names_of_branch x ≡ names_in_item (branch_of x)

item_layer : (l : GenerateItem-F GenerateItem Branch)
    → generate_item_names (map-GenerateItem GenerateItem Branch (List NameId) (List NameId) names_of_generate_item names_of_branch l)
    ≡ names_in_item (generate_item_view (map-GenerateItem GenerateItem Branch ModuleItem ModuleItem generate_item_of branch_of l))
    → Generated (roll-GenerateItem l)
item_layer l h =
    fold-roll-GenerateItem (List NameId) (List NameId) generate_item_names branch_names l
    ∙ h
    ∙ ap names_in_item (sym (fold-roll-GenerateItem ModuleItem ModuleItem generate_item_view branch_view l))

branch_layer : (x : Branch) → joined (map names_of_generate_item x.items) ≡ names_in_item (items_of (map generate_item_of x.items)) → Branched x
branch_layer x h =
    fold_out-Branch (List NameId) (List NameId) generate_item_names branch_names x
    ∙ joined_so (value_named x.condition) (ap (λ a. x.label.name ∷ a) h)
    ∙ ap names_in_item (sym (fold_out-Branch ModuleItem ModuleItem generate_item_view branch_view x))

items_named : (xs : List ((x : GenerateItem) × Generated x))
    → joined (map names_of_generate_item (map (λ x. x.0) xs)) ≡ names_in_item (items_of (map generate_item_of (map (λ x. x.0) xs)))
items_named [] = refl
items_named (x ∷ xs) = joined_so x.1 (items_named xs)

branches_named : (xs : List ((x : Branch) × Branched x))
    → joined (map names_of_branch (map (λ x. x.0) xs)) ≡ names_in_item (items_of (map branch_of (map (λ x. x.0) xs)))
branches_named [] = refl
branches_named (x ∷ xs) = joined_so x.1 (branches_named xs)

item_node : (y : GenerateItem-F ((x : GenerateItem) × Generated x) ((x : Branch) × Branched x))
    → Generated (roll-GenerateItem (map-GenerateItem ((x : GenerateItem) × Generated x) ((x : Branch) × Branched x) GenerateItem Branch (λ x. x.0) (λ x. x.0) y))
item_node (GenerateItem-F.Plain x) = item_layer (GenerateItem-F.Plain x) (plain_item_named x)
item_node (GenerateItem-F.For at x n ys) =
    item_layer (GenerateItem-F.For at x n (map (λ x. x.0) ys)) (joined_so (head_named x) (ap (λ a. n.name ∷ a) (items_named ys)))
item_node (GenerateItem-F.If xs) = item_layer (GenerateItem-F.If (map (λ x. x.0) xs)) (branches_named xs)

branch_node : (y : Branch-F ((x : GenerateItem) × Generated x) ((x : Branch) × Branched x))
    → Branched (roll-Branch (map-Branch ((x : GenerateItem) × Generated x) ((x : Branch) × Branched x) GenerateItem Branch (λ x. x.0) (λ x. x.0) y))
branch_node y = branch_layer (record { at = y.at; condition = y.condition; label = y.label; items = map (λ x. x.0) y.items }) (items_named y.items)

generate_item_named : (x : GenerateItem) → names_of_generate_item x ≡ names_in_item (generate_item_of x)
generate_item_named x = ind-GenerateItem Generated Branched (λ x y is. subst (λ z. Generated (roll-GenerateItem z)) is (item_node y))
    (λ x y is. subst (λ z. Branched (roll-Branch z)) is (branch_node y)) x

-- ---- modules

region_named : (xs : List GenerateItem) → flat_map names_of_generate_item xs ≡ names_in_item (items_of (map generate_item_of xs))
region_named [] = refl
region_named (x ∷ xs) = joined_so (generate_item_named x) (region_named xs)

item_named : (x : Item) → names_of_item x ≡ names_in_item (item_of x)
item_named (item.Input at net x ns) = ap (λ a. a ++ names_of_identifiers ns) (kind_named x)
item_named (item.Output at net x ys) = joined_so (kind_named x) (all_named declared_of names_of_variable names_in_declared declared_named ys)
item_named (item.Parameter at x ys) = joined_so (kind_named x) (all_named parameter_of names_of_parameter names_in_parameter parameter_named ys)
item_named (item.Region at xs) = region_named xs
item_named (item.Item x) = generate_item_named x

body_items_named : (xs : List Item) → flat_map names_of_item xs ≡ names_in_item (items_of (map item_of xs))
body_items_named [] = refl
body_items_named (x ∷ xs) = joined_so (item_named x) (body_items_named xs)

pub declaration_named : (x : ModuleBody) → names_of_body x ≡ names_in_declaration (declaration_of x)
declaration_named x =
    ap (λ a. x.name.name ∷ a) (joined_so (all_named header_parameter_of names_of_header_parameter names_in_header_parameter header_parameter_named x.parameters)
    (joined_so (ports_named x.ports) (body_items_named x.items)))

pub modules_named : (xs : List Module) → names_of_modules xs ≡ names_in_modules xs
modules_named [] = refl
modules_named (x ∷ xs) = joined_so (declaration_named x.body) (modules_named xs)
