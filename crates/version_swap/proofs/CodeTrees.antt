-- The trees of the code declare parameters and ports outside of generate blocks alone.
use Rattle.std.proofs.Common.{◌≡◌, ◌∙◌, true, ◌&&◌, List, [], ◌∷◌, map, refl, ap, ap₂, subst}
use Rattle.std.proofs.lemmas.Bool.{and_parts}
use Rattle.verilog_ast.specs.declared.plain_item.PlainItem.{PlainItem}
use Rattle.verilog_ast.specs.declared.plain_item.PlainItem.TheVariants as plain
use Rattle.verilog_ast.specs.declared.generate_item.Branch.{Branch, roll-Branch}
use Rattle.verilog_ast.specs.declared.generate_item.GenerateItem.{GenerateItem, roll-GenerateItem}
use Rattle.verilog_ast.specs.declared.generate_item.GenerateItem.TheOpen.{GenerateItem-F, Branch-F}
use Rattle.verilog_ast.specs.declared.generate_item.GenerateItem.TheFolds.{fold-roll-GenerateItem, fold_out-Branch, ind-GenerateItem}
use Rattle.verilog_ast.specs.declared.generate_item.GenerateItem.TheFolds.{map-GenerateItem, map-Branch}
use Rattle.verilog_ast.specs.declared.item.Item.{Item}
use Rattle.verilog_ast.specs.declared.item.Item.TheVariants as item
use Rattle.verilog_ast.specs.declared.module_body.ModuleBody.{ModuleBody}
use Rattle.verilog_ast.specs.Items as i
use Rattle.verilog_ast.specs.Items.{ModuleItem}
use Rattle.verilog_ast.specs.Views.{plain_item_of, items_of, generate_item_view, branch_view, generate_item_of, branch_of, item_of, declaration_of}
use Rattle.version_swap.specs.OuterTrees.{may_stand_in_block, may_stand_outside, has_outer_ports_alone}

-- ---- items of generate blocks, by layers

abbrev StandsItem : GenerateItem → Type 0
StandsItem x = may_stand_in_block (generate_item_of x) ≡ true

abbrev StandsBranch : Branch → Type 0
StandsBranch x = may_stand_in_block (branch_of x) ≡ true

plain_stands : (x : PlainItem) → may_stand_in_block (plain_item_of x) ≡ true
plain_stands (plain.Wire at x ys) = refl
plain_stands (plain.Reg at x ys) = refl
plain_stands (plain.LocalParameter at x ys) = refl
plain_stands (plain.Genvar at xs) = refl
plain_stands (plain.Assign at xs) = refl
plain_stands (plain.Combinational at x) = refl
plain_stands (plain.Clocked at n x) = refl
plain_stands (plain.Instances n x ys) = refl

items_stand : (xs : List ((x : GenerateItem) × StandsItem x)) → may_stand_in_block (items_of (map generate_item_of (map (λ x. x.0) xs))) ≡ true
items_stand [] = refl
items_stand (x ∷ xs) = ap₂ (λ a b. a && b) x.1 (items_stand xs)

branches_stand : (xs : List ((x : Branch) × StandsBranch x)) → may_stand_in_block (items_of (map branch_of (map (λ x. x.0) xs))) ≡ true
branches_stand [] = refl
branches_stand (x ∷ xs) = ap₂ (λ a b. a && b) x.1 (branches_stand xs)

item_layer : (l : GenerateItem-F GenerateItem Branch)
    → may_stand_in_block (generate_item_view (map-GenerateItem GenerateItem Branch ModuleItem ModuleItem generate_item_of branch_of l)) ≡ true
    → StandsItem (roll-GenerateItem l)
item_layer l is = ap may_stand_in_block (fold-roll-GenerateItem ModuleItem ModuleItem generate_item_view branch_view l) ∙ is

item_node : (y : GenerateItem-F ((x : GenerateItem) × StandsItem x) ((x : Branch) × StandsBranch x))
    → StandsItem (roll-GenerateItem (map-GenerateItem ((x : GenerateItem) × StandsItem x) ((x : Branch) × StandsBranch x) GenerateItem Branch
    (λ x. x.0) (λ x. x.0) y))
item_node (GenerateItem-F.Plain x) = item_layer (GenerateItem-F.Plain x) (plain_stands x)
item_node (GenerateItem-F.For at x n ys) = item_layer (GenerateItem-F.For at x n (map (λ x. x.0) ys)) (items_stand ys)
item_node (GenerateItem-F.If xs) = item_layer (GenerateItem-F.If (map (λ x. x.0) xs)) (branches_stand xs)

branch_layer : (x : Branch) → may_stand_in_block (items_of (map generate_item_of x.items)) ≡ true → StandsBranch x
branch_layer x is = ap may_stand_in_block (fold_out-Branch ModuleItem ModuleItem generate_item_view branch_view x) ∙ is

branch_node : (y : Branch-F ((x : GenerateItem) × StandsItem x) ((x : Branch) × StandsBranch x))
    → StandsBranch (roll-Branch (map-Branch ((x : GenerateItem) × StandsItem x) ((x : Branch) × StandsBranch x) GenerateItem Branch (λ x. x.0)
    (λ x. x.0) y))
branch_node y = branch_layer (record { at = y.at; condition = y.condition; label = y.label; items = map (λ x. x.0) y.items }) (items_stand y.items)

generate_item_stands : (x : GenerateItem) → may_stand_in_block (generate_item_of x) ≡ true
generate_item_stands x = ind-GenerateItem StandsItem StandsBranch (λ x y is. subst (λ z. StandsItem (roll-GenerateItem z)) is (item_node y))
    (λ x y is. subst (λ z. StandsBranch (roll-Branch z)) is (branch_node y)) x

-- ---- what may stand in a block may stand outside

outside_too : (x : ModuleItem) → may_stand_in_block x ≡ true → may_stand_outside x ≡ true
outside_too (i.Region at xs) is = outside_too xs is
outside_too (i.Items x xs) is =
    ap₂ (λ a b. a && b) (outside_too x (and_parts (may_stand_in_block x) (may_stand_in_block xs) is).0)
    (outside_too xs (and_parts (may_stand_in_block x) (may_stand_in_block xs) is).1)
outside_too (i.Loop at h label xs) is = is
outside_too (i.Conditional xs) is = is
outside_too (i.Branch at c label xs) is = is
outside_too other is = refl

-- ---- modules

region_stands : (xs : List GenerateItem) → may_stand_outside (items_of (map generate_item_of xs)) ≡ true
region_stands [] = refl
region_stands (x ∷ xs) = ap₂ (λ a b. a && b) (outside_too (generate_item_of x) (generate_item_stands x)) (region_stands xs)

item_stands : (x : Item) → may_stand_outside (item_of x) ≡ true
item_stands (item.Input at net x ns) = refl
item_stands (item.Output at net x ys) = refl
item_stands (item.Parameter at x ys) = refl
item_stands (item.Region at xs) = region_stands xs
item_stands (item.Item x) = outside_too (generate_item_of x) (generate_item_stands x)

all_stand : (xs : List Item) → may_stand_outside (items_of (map item_of xs)) ≡ true
all_stand [] = refl
all_stand (x ∷ xs) = ap₂ (λ a b. a && b) (item_stands x) (all_stand xs)

-- each module of the code
pub code_stands : (body : ModuleBody) → has_outer_ports_alone (declaration_of body) ≡ true
code_stands body = all_stand body.items
