-- The modules of the code are written as a parser writes them.
use Rattle.std.proofs.Common.{List, [], ◌∷◌, map, sym, subst}
use Rattle.typed_ir.specs.Orders.{Each}
use Rattle.verilog_ast.specs.declared.plain_item.PlainItem.{PlainItem}
use Rattle.verilog_ast.specs.declared.plain_item.PlainItem.TheVariants as plain
use Rattle.verilog_ast.specs.declared.header_port.HeaderPort.{HeaderPort}
use Rattle.verilog_ast.specs.declared.ports.Ports.{Ports}
use Rattle.verilog_ast.specs.declared.ports.Ports.TheVariants as ports
use Rattle.verilog_ast.specs.declared.generate_item.Branch.{Branch, roll-Branch}
use Rattle.verilog_ast.specs.declared.generate_item.GenerateItem.{GenerateItem, roll-GenerateItem}
use Rattle.verilog_ast.specs.declared.generate_item.GenerateItem.TheOpen.{GenerateItem-F, Branch-F}
use Rattle.verilog_ast.specs.declared.generate_item.GenerateItem.TheFolds.{fold-roll-GenerateItem, fold_out-Branch, ind-GenerateItem, map-GenerateItem, map-Branch}
use Rattle.verilog_ast.specs.declared.item.Item.{Item}
use Rattle.verilog_ast.specs.declared.item.Item.TheVariants as item
use Rattle.verilog_ast.specs.declared.module_body.ModuleBody.{ModuleBody}
use Rattle.verilog_ast.specs.Declarations.{PortDeclaration}
use Rattle.verilog_ast.specs.Items.{ModuleItem}
use Rattle.verilog_ast.specs.Views.{port_of, ports_of, plain_item_of, items_of, generate_item_view, branch_view, generate_item_of, branch_of, item_of, declaration_of}
use Rattle.mention_laws.proofs.Trees.{statement_is_placed}
use Rattle.statement_rules.specs.DeclaredValues.{kind_of_net, port_values}
use Rattle.unit_build.proofs.ConnectedTexts.{item_written as instances_are_written}
use Rattle.unit_build.proofs.ItemLaws.{AreValuesWritten, values_written, port_written, item_written}
use Rattle.version_swap.proofs.WrittenSteps.{AreItemsWritten, ArePortsWritten, IsModuleWritten}

plain_whole : (x : PlainItem) → AreItemsWritten (plain_item_of x)
plain_whole (plain.Wire at x ys) = (item_written (plain.Wire at x ys), (tt, tt))
plain_whole (plain.Reg at x ys) = (item_written (plain.Reg at x ys), (tt, tt))
plain_whole (plain.LocalParameter at x ys) = (tt, (tt, tt))
plain_whole (plain.Genvar at xs) = (tt, (tt, tt))
plain_whole (plain.Assign at xs) = (item_written (plain.Assign at xs), (tt, tt))
plain_whole (plain.Combinational at x) = (item_written (plain.Combinational at x), (tt, statement_is_placed x))
plain_whole (plain.Clocked at n x) = (item_written (plain.Clocked at n x), (tt, statement_is_placed x))
plain_whole (plain.Instances n x ys) = (tt, (instances_are_written (plain.Instances n x ys), tt))

-- ---- items of generate blocks

abbrev IsWhole : GenerateItem → Type 0
IsWhole x = AreItemsWritten (generate_item_of x)

abbrev IsBranchWhole : Branch → Type 0
IsBranchWhole x = AreItemsWritten (branch_of x)

-- an item or a branch that is so
abbrev Whole : Type 0
Whole = (x : GenerateItem) × IsWhole x

abbrev WholeBranch : Type 0
WholeBranch = (x : Branch) × IsBranchWhole x

items_whole : (xs : List Whole) → AreItemsWritten (items_of (map generate_item_of (map (λ x. x.0) xs)))
items_whole [] = tt
items_whole (x ∷ xs) = (x.1, items_whole xs)

branches_whole : (xs : List WholeBranch) → AreItemsWritten (items_of (map branch_of (map (λ x. x.0) xs)))
branches_whole [] = tt
branches_whole (x ∷ xs) = (x.1, branches_whole xs)

item_layer : (l : GenerateItem-F GenerateItem Branch)
    → AreItemsWritten (generate_item_view (map-GenerateItem GenerateItem Branch ModuleItem ModuleItem generate_item_of branch_of l))
    → IsWhole (roll-GenerateItem l)
item_layer l h = subst AreItemsWritten (sym (fold-roll-GenerateItem ModuleItem ModuleItem generate_item_view branch_view l)) h

item_node : (y : GenerateItem-F Whole WholeBranch)
    → IsWhole (roll-GenerateItem (map-GenerateItem Whole WholeBranch GenerateItem Branch (λ x. x.0) (λ x. x.0) y))
item_node (GenerateItem-F.Plain x) = item_layer (GenerateItem-F.Plain x) (plain_whole x)
item_node (GenerateItem-F.For at x n ys) = item_layer (GenerateItem-F.For at x n (map (λ x. x.0) ys)) (items_whole ys)
item_node (GenerateItem-F.If xs) = item_layer (GenerateItem-F.If (map (λ x. x.0) xs)) (branches_whole xs)

branch_layer : (x : Branch) → AreItemsWritten (items_of (map generate_item_of x.items)) → IsBranchWhole x
branch_layer x h = subst AreItemsWritten (sym (fold_out-Branch ModuleItem ModuleItem generate_item_view branch_view x)) h

branch_node : (y : Branch-F Whole WholeBranch)
    → IsBranchWhole (roll-Branch (map-Branch Whole WholeBranch GenerateItem Branch (λ x. x.0) (λ x. x.0) y))
branch_node y = branch_layer (record { at = y.at; condition = y.condition; label = y.label; items = map (λ x. x.0) y.items }) (items_whole y.items)

generate_whole : (x : GenerateItem) → IsWhole x
generate_whole x = ind-GenerateItem IsWhole IsBranchWhole (λ x y is. subst (λ z. IsWhole (roll-GenerateItem z)) is (item_node y))
    (λ x y is. subst (λ z. IsBranchWhole (roll-Branch z)) is (branch_node y)) x

-- ---- modules

region_whole : (xs : List GenerateItem) → AreItemsWritten (items_of (map generate_item_of xs))
region_whole [] = tt
region_whole (x ∷ xs) = (generate_whole x, region_whole xs)

one_whole : (x : Item) → AreItemsWritten (item_of x)
one_whole (item.Input at net x ns) = (tt, (tt, tt))
one_whole (item.Output at net x ys) = (values_written (kind_of_net net) ys, (tt, tt))
one_whole (item.Parameter at x ys) = (tt, (tt, tt))
one_whole (item.Region at xs) = region_whole xs
one_whole (item.Item x) = generate_whole x

all_whole : (xs : List Item) → AreItemsWritten (items_of (map item_of xs))
all_whole [] = tt
all_whole (x ∷ xs) = (one_whole x, all_whole xs)

declared_whole : (xs : List HeaderPort) → Each (λ (p : PortDeclaration). AreValuesWritten (port_values p)) (map port_of xs)
declared_whole [] = tt
declared_whole (x ∷ xs) = (port_written x, declared_whole xs)

ports_whole : (p : Ports) → ArePortsWritten (ports_of p)
ports_whole ports.Nothing = tt
ports_whole (ports.Names xs) = tt
ports_whole (ports.Declarations xs) = declared_whole xs

pub module_written : (b : ModuleBody) → IsModuleWritten (declaration_of b)
module_written b = record { ports = ports_whole b.ports; items = all_whole b.items }
