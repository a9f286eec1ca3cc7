-- What items and modules under other names are as plain data is what they are, under these.
use Rattle.std.proofs.Common.{◌≡◌, ◌∙◌, List, [], ◌∷◌, Option, map, refl, sym, ap, ap₂, subst}
use Rattle.std.specs.Option.{option_map}
use Rattle.ls_text.specs.declared.name_id.NameId.{NameId}
use Rattle.ls_text.proofs.Lists.{map_so}
use Rattle.verilog_ast.specs.declared.range.Range.{Range}
use Rattle.verilog_ast.specs.declared.shape.Shape.{Shape}
use Rattle.verilog_ast.specs.declared.variable.Variable.{Variable}
use Rattle.verilog_ast.specs.declared.reg_variable.RegVariable.{RegVariable}
use Rattle.verilog_ast.specs.declared.parameter.Parameter.{Parameter}
use Rattle.verilog_ast.specs.declared.header_parameter.HeaderParameter.{HeaderParameter}
use Rattle.verilog_ast.specs.declared.header_port.HeaderPort.{HeaderPort}
use Rattle.verilog_ast.specs.declared.header_port.HeaderPort.TheVariants as port
use Rattle.verilog_ast.specs.declared.ports.Ports.{Ports}
use Rattle.verilog_ast.specs.declared.ports.Ports.TheVariants as ports
use Rattle.verilog_ast.specs.declared.named_connection.NamedConnection.{NamedConnection}
use Rattle.verilog_ast.specs.declared.ordered_connection.OrderedConnection.{OrderedConnection}
use Rattle.verilog_ast.specs.declared.connections.Connections.{Connections}
use Rattle.verilog_ast.specs.declared.connections.Connections.TheVariants as connections
use Rattle.verilog_ast.specs.declared.instance.Instance.{Instance}
use Rattle.verilog_ast.specs.declared.continuous.Continuous.{Continuous}
use Rattle.verilog_ast.specs.declared.generate_loop.Loop.{Loop}
use Rattle.verilog_ast.specs.declared.plain_item.PlainItem.{PlainItem}
use Rattle.verilog_ast.specs.declared.plain_item.PlainItem.TheVariants as plain
use Rattle.verilog_ast.specs.declared.generate_item.Branch.{Branch, roll-Branch}
use Rattle.verilog_ast.specs.declared.generate_item.GenerateItem.{GenerateItem, roll-GenerateItem}
use Rattle.verilog_ast.specs.declared.generate_item.GenerateItem.TheVariants as g
use Rattle.verilog_ast.specs.declared.generate_item.GenerateItem.TheOpen.{GenerateItem-F, Branch-F}
use Rattle.verilog_ast.specs.declared.generate_item.GenerateItem.TheFolds.{fold-roll-GenerateItem, fold_out-Branch, ind-GenerateItem, map-GenerateItem, map-Branch}
use Rattle.verilog_ast.specs.declared.item.Item.{Item}
use Rattle.verilog_ast.specs.declared.item.Item.TheVariants as item
use Rattle.verilog_ast.specs.declared.module_body.ModuleBody.{ModuleBody}
use Rattle.verilog_ast.specs.declared.expression.Expr.{Expr}
use Rattle.verilog_ast.specs.Expressions.{Expression, Target}
use Rattle.verilog_ast.specs.Declarations as d
use Rattle.verilog_ast.specs.Declarations.{RangeBounds, Kind, Declared, DeclaredReg, ParameterAssignment, HeaderParameterDeclaration, PortDeclaration, PortList}
use Rattle.verilog_ast.specs.Items as i
use Rattle.verilog_ast.specs.Items.{ConnectionByName, ConnectionByOrder, ConnectionList, ModuleInstance, ContinuousAssignment, LoopHead, ModuleItem, ModuleDeclaration}
use Rattle.verilog_ast.specs.Renamed.{renamed_identifier, renamed_expression, renamed_range, renamed_shape, renamed_variable, renamed_reg_variable, renamed_parameter, renamed_header_parameter, renamed_header_port, renamed_ports, renamed_named, renamed_ordered, renamed_connections, renamed_instance, renamed_continuous, renamed_plain_item, renamed_loop, generate_item_step, branch_step, renamed_generate_item, renamed_branch, renamed_item, renamed_body}
use Rattle.verilog_ast.specs.Views.{expression_of, range_of, kind_of, declared_of, declared_reg_of, parameter_of, header_parameter_of, port_of, ports_of, by_name_of, by_order_of, connections_of, instance_of, assignment_of, plain_item_of, head_of, items_of, generate_item_view, branch_view, generate_item_of, branch_of, item_of, declaration_of}
use Rattle.verilog_ast.specs.Renaming.{expression_as, range_as, kind_as, declared_as, declared_reg_as, parameter_as, header_parameter_as, port_as, ports_as, by_name_as, by_order_as, connections_as, instance_as, assignment_as, head_as, item_as, declaration_as}
use Rattle.verilog_ast.proofs.Equal.{ap₃}
use Rattle.verilog_ast.proofs.RenamedViews.{same_expression, same_target, same_option}
use Rattle.verilog_ast.proofs.RenamedStatementViews.{same_statement}

-- ---- declarations

same_range : (f : NameId → NameId) (x : Range) → range_of (renamed_range f x) ≡ range_as f (range_of x)
same_range f x = ap₂ (λ (y z : Expression). record { high = y; low = z }) (same_expression f x.high) (same_expression f x.low)

same_kind : (f : NameId → NameId) (x : Shape) → kind_of (renamed_shape f x) ≡ kind_as f (kind_of x)
same_kind f x = ap (λ (y : Option RangeBounds). record { signed = x.signed; range = y }) (same_option range_of (renamed_range f) (range_as f) (same_range f) x.range)

same_value : (f : NameId → NameId) (x : Option Expr) → option_map expression_of (option_map (renamed_expression f) x) ≡ option_map (expression_as f) (option_map expression_of x)
same_value f x = same_option expression_of (renamed_expression f) (expression_as f) (same_expression f) x

same_declared : (f : NameId → NameId) (x : Variable) → declared_of (renamed_variable f x) ≡ declared_as f (declared_of x)
same_declared f x = ap (λ (y : Option Expression). record { name = renamed_identifier f x.name; value = y }) (same_value f x.value)

same_declared_reg : (f : NameId → NameId) (x : RegVariable) → declared_reg_of (renamed_reg_variable f x) ≡ declared_reg_as f (declared_reg_of x)
same_declared_reg f x =
    ap₂ (λ (y : Option Expression) (z : Option RangeBounds). record { name = renamed_identifier f x.name; value = y; addresses = z })
    (same_value f x.value) (same_option range_of (renamed_range f) (range_as f) (same_range f) x.addresses)

same_parameter : (f : NameId → NameId) (x : Parameter) → parameter_of (renamed_parameter f x) ≡ parameter_as f (parameter_of x)
same_parameter f x = ap (λ (y : Expression). record { name = renamed_identifier f x.name; value = y }) (same_expression f x.value)

same_header_parameter : (f : NameId → NameId) (x : HeaderParameter) → header_parameter_of (renamed_header_parameter f x) ≡ header_parameter_as f (header_parameter_of x)
same_header_parameter f x =
    ap₂ (λ (y : Option Kind) (z : ParameterAssignment). record { kind = y; parameter = z })
    (same_option kind_of (renamed_shape f) (kind_as f) (same_kind f) x.shape) (same_parameter f x.parameter)

same_port : (f : NameId → NameId) (x : HeaderPort) → port_of (renamed_header_port f x) ≡ port_as f (port_of x)
same_port f (port.Input at net x n) = ap (λ (y : Kind). d.InputPort at net y (renamed_identifier f n)) (same_kind f x)
same_port f (port.Output at net x y) = ap₂ (d.OutputPort at net) (same_kind f x) (same_declared f y)
same_port f (port.Next x) = ap d.NextPort (same_declared f x)

same_ports : (f : NameId → NameId) (x : Ports) → ports_of (renamed_ports f x) ≡ ports_as f (ports_of x)
same_ports f ports.Nothing = refl
same_ports f (ports.Names xs) = refl
same_ports f (ports.Declarations xs) = ap d.DeclaredPorts (map_so port_of (renamed_header_port f) (port_as f) (same_port f) xs)

-- ---- items

same_by_name : (f : NameId → NameId) (x : NamedConnection) → by_name_of (renamed_named f x) ≡ by_name_as f (by_name_of x)
same_by_name f x = ap (λ (y : Option Expression). record { at = x.at; name = renamed_identifier f x.name; value = y }) (same_value f x.value)

same_by_order : (f : NameId → NameId) (x : OrderedConnection) → by_order_of (renamed_ordered f x) ≡ by_order_as f (by_order_of x)
same_by_order f x = ap (λ (y : Option Expression). record { at = x.at; value = y }) (same_value f x.value)

same_connections : (f : NameId → NameId) (x : Connections) → connections_of (renamed_connections f x) ≡ connections_as f (connections_of x)
same_connections f (connections.Named xs) = ap i.ByName (map_so by_name_of (renamed_named f) (by_name_as f) (same_by_name f) xs)
same_connections f (connections.Ordered xs) = ap i.ByOrder (map_so by_order_of (renamed_ordered f) (by_order_as f) (same_by_order f) xs)

same_instance : (f : NameId → NameId) (x : Instance) → instance_of (renamed_instance f x) ≡ instance_as f (instance_of x)
same_instance f x = ap (λ (y : ConnectionList). record { name = renamed_identifier f x.name; connections = y }) (same_connections f x.connections)

same_assignment : (f : NameId → NameId) (x : Continuous) → assignment_of (renamed_continuous f x) ≡ assignment_as f (assignment_of x)
same_assignment f x = ap₂ (λ (y : Target) (z : Expression). record { target = y; value = z }) (same_target f x.target) (same_expression f x.value)

same_plain_item : (f : NameId → NameId) (x : PlainItem) → plain_item_of (renamed_plain_item f x) ≡ item_as f (plain_item_of x)
same_plain_item f (plain.Wire at x ys) = ap₂ (i.Wires at) (same_kind f x) (map_so declared_of (renamed_variable f) (declared_as f) (same_declared f) ys)
same_plain_item f (plain.Reg at x ys) = ap₂ (i.Regs at) (same_kind f x) (map_so declared_reg_of (renamed_reg_variable f) (declared_reg_as f) (same_declared_reg f) ys)
same_plain_item f (plain.LocalParameter at x ys) =
    ap₂ (i.LocalParameters at) (same_kind f x) (map_so parameter_of (renamed_parameter f) (parameter_as f) (same_parameter f) ys)
same_plain_item f (plain.Genvar at xs) = refl
same_plain_item f (plain.Assign at xs) = ap (i.Assigns at) (map_so assignment_of (renamed_continuous f) (assignment_as f) (same_assignment f) xs)
same_plain_item f (plain.Combinational at x) = ap (i.Combinational at) (same_statement f x)
same_plain_item f (plain.Clocked at n x) = ap (i.Clocked at (renamed_identifier f n)) (same_statement f x)
same_plain_item f (plain.Instances n x ys) =
    ap₂ (i.Instances (renamed_identifier f n)) (same_option connections_of (renamed_connections f) (connections_as f) (same_connections f) x)
    (map_so instance_of (renamed_instance f) (instance_as f) (same_instance f) ys)

same_head : (f : NameId → NameId) (x : Loop) → head_of (renamed_loop f x) ≡ head_as f (head_of x)
same_head f x =
    ap₃ (λ (a : ParameterAssignment) (b : Expression) (c : ParameterAssignment). record { start = a; condition = b; step = c })
    (same_parameter f x.start) (same_expression f x.condition) (same_parameter f x.step)

-- ---- items of generate blocks, by layers

abbrev SameItem : (NameId → NameId) → GenerateItem → Type 0
SameItem f x = generate_item_of (renamed_generate_item f x) ≡ item_as f (generate_item_of x)

abbrev SameBranch : (NameId → NameId) → Branch → Type 0
SameBranch f x = branch_of (renamed_branch f x) ≡ item_as f (branch_of x)

abbrev named_item : (NameId → NameId) → GenerateItem-F GenerateItem Branch → GenerateItem-F GenerateItem Branch
named_item f (GenerateItem-F.Plain x) = GenerateItem-F.Plain (renamed_plain_item f x)
named_item f (GenerateItem-F.For at x n ys) = GenerateItem-F.For at (renamed_loop f x) (renamed_identifier f n) ys
named_item f (GenerateItem-F.If xs) = GenerateItem-F.If xs

item_rolls : (f : NameId → NameId) (l : GenerateItem-F GenerateItem Branch) → roll-GenerateItem (named_item f l) ≡ generate_item_step f l
item_rolls f (GenerateItem-F.Plain x) = g.rolls-Plain (renamed_plain_item f x)
item_rolls f (GenerateItem-F.For at x n ys) = g.rolls-For at (renamed_loop f x) (renamed_identifier f n) ys
item_rolls f (GenerateItem-F.If xs) = g.rolls-If xs

abbrev renamed_layer : (NameId → NameId) → GenerateItem-F GenerateItem Branch → GenerateItem-F GenerateItem Branch
renamed_layer f l = named_item f (map-GenerateItem GenerateItem Branch GenerateItem Branch (renamed_generate_item f) (renamed_branch f) l)

abbrev viewed_layer : GenerateItem-F GenerateItem Branch → ModuleItem
viewed_layer l = generate_item_view (map-GenerateItem GenerateItem Branch ModuleItem ModuleItem generate_item_of branch_of l)

item_layer : (f : NameId → NameId) (l : GenerateItem-F GenerateItem Branch) → viewed_layer (renamed_layer f l) ≡ item_as f (viewed_layer l) → SameItem f (roll-GenerateItem l)
item_layer f l h =
    ap generate_item_of (fold-roll-GenerateItem GenerateItem Branch (generate_item_step f) (branch_step f) l
    ∙ sym (item_rolls f (map-GenerateItem GenerateItem Branch GenerateItem Branch (renamed_generate_item f) (renamed_branch f) l)))
    ∙ fold-roll-GenerateItem ModuleItem ModuleItem generate_item_view branch_view (renamed_layer f l)
    ∙ h
    ∙ ap (item_as f) (sym (fold-roll-GenerateItem ModuleItem ModuleItem generate_item_view branch_view l))

same_items : (f : NameId → NameId) (xs : List ((x : GenerateItem) × SameItem f x))
    → items_of (map generate_item_of (map (renamed_generate_item f) (map (λ x. x.0) xs))) ≡ item_as f (items_of (map generate_item_of (map (λ x. x.0) xs)))
same_items f [] = refl
same_items f (x ∷ xs) = ap₂ i.Items x.1 (same_items f xs)

same_branches : (f : NameId → NameId) (xs : List ((x : Branch) × SameBranch f x))
    → items_of (map branch_of (map (renamed_branch f) (map (λ x. x.0) xs))) ≡ item_as f (items_of (map branch_of (map (λ x. x.0) xs)))
same_branches f [] = refl
same_branches f (x ∷ xs) = ap₂ i.Items x.1 (same_branches f xs)

item_node : (f : NameId → NameId) (y : GenerateItem-F ((x : GenerateItem) × SameItem f x) ((x : Branch) × SameBranch f x))
    → SameItem f (roll-GenerateItem (map-GenerateItem ((x : GenerateItem) × SameItem f x) ((x : Branch) × SameBranch f x) GenerateItem Branch (λ x. x.0) (λ x. x.0) y))
item_node f (GenerateItem-F.Plain x) = item_layer f (GenerateItem-F.Plain x) (same_plain_item f x)
item_node f (GenerateItem-F.For at x n ys) =
    item_layer f (GenerateItem-F.For at x n (map (λ x. x.0) ys)) (ap₂ (λ (a : LoopHead) (b : ModuleItem). i.Loop at a (renamed_identifier f n) b) (same_head f x) (same_items f ys))
item_node f (GenerateItem-F.If xs) = item_layer f (GenerateItem-F.If (map (λ x. x.0) xs)) (ap i.Conditional (same_branches f xs))

branch_layer : (f : NameId → NameId) (x : Branch)
    → items_of (map generate_item_of (map (renamed_generate_item f) x.items)) ≡ item_as f (items_of (map generate_item_of x.items)) → SameBranch f x
branch_layer f x h =
    ap branch_of (fold_out-Branch GenerateItem Branch (generate_item_step f) (branch_step f) x)
    ∙ fold_out-Branch ModuleItem ModuleItem generate_item_view branch_view (record {
      at = x.at;
      condition = option_map (renamed_expression f) x.condition;
      label = renamed_identifier f x.label;
      items = map (renamed_generate_item f) x.items;
    })
    ∙ ap₂ (λ (c : Option Expression) (ys : ModuleItem). i.Branch x.at c (renamed_identifier f x.label) ys) (same_value f x.condition) h
    ∙ ap (item_as f) (sym (fold_out-Branch ModuleItem ModuleItem generate_item_view branch_view x))

branch_node : (f : NameId → NameId) (y : Branch-F ((x : GenerateItem) × SameItem f x) ((x : Branch) × SameBranch f x))
    → SameBranch f (roll-Branch (map-Branch ((x : GenerateItem) × SameItem f x) ((x : Branch) × SameBranch f x) GenerateItem Branch (λ x. x.0) (λ x. x.0) y))
branch_node f y = branch_layer f (record { at = y.at; condition = y.condition; label = y.label; items = map (λ x. x.0) y.items }) (same_items f y.items)

same_generate_item : (f : NameId → NameId) (x : GenerateItem) → generate_item_of (renamed_generate_item f x) ≡ item_as f (generate_item_of x)
same_generate_item f x = ind-GenerateItem (SameItem f) (SameBranch f) (λ x y is. subst (λ z. SameItem f (roll-GenerateItem z)) is (item_node f y))
    (λ x y is. subst (λ z. SameBranch f (roll-Branch z)) is (branch_node f y)) x

-- ---- modules

same_region : (f : NameId → NameId) (xs : List GenerateItem)
    → items_of (map generate_item_of (map (renamed_generate_item f) xs)) ≡ item_as f (items_of (map generate_item_of xs))
same_region f [] = refl
same_region f (x ∷ xs) = ap₂ i.Items (same_generate_item f x) (same_region f xs)

same_item : (f : NameId → NameId) (x : Item) → item_of (renamed_item f x) ≡ item_as f (item_of x)
same_item f (item.Input at net x ns) = ap (λ (y : Kind). i.Inputs at net y (map (renamed_identifier f) ns)) (same_kind f x)
same_item f (item.Output at net x ys) = ap₂ (i.Outputs at net) (same_kind f x) (map_so declared_of (renamed_variable f) (declared_as f) (same_declared f) ys)
same_item f (item.Parameter at x ys) = ap₂ (i.Parameters at) (same_kind f x) (map_so parameter_of (renamed_parameter f) (parameter_as f) (same_parameter f) ys)
same_item f (item.Region at xs) = ap (i.Region at) (same_region f xs)
same_item f (item.Item x) = same_generate_item f x

same_body_items : (f : NameId → NameId) (xs : List Item) → items_of (map item_of (map (renamed_item f) xs)) ≡ item_as f (items_of (map item_of xs))
same_body_items f [] = refl
same_body_items f (x ∷ xs) = ap₂ i.Items (same_item f x) (same_body_items f xs)

pub same_declaration : (f : NameId → NameId) (x : ModuleBody) → declaration_of (renamed_body f x) ≡ declaration_as f (declaration_of x)
same_declaration f x =
    ap₃ (λ (a : List HeaderParameterDeclaration) (b : PortList) (c : ModuleItem). record { name = renamed_identifier f x.name; parameters = a; ports = b; items = c })
    (map_so header_parameter_of (renamed_header_parameter f) (header_parameter_as f) (same_header_parameter f) x.parameters)
    (same_ports f x.ports) (same_body_items f x.items)
