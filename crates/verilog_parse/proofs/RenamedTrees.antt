-- Items of generate blocks under other names, variant by variant.
use Rattle.std.proofs.Common.{◌≡◌, ◌∙◌, List, map, sym, ap}
use Rattle.std.specs.Option.{option_map}
use Rattle.ls_text.specs.declared.place.Place.{Place}
use Rattle.ls_text.specs.declared.name_id.NameId.{NameId}
use Rattle.verilog_ast.specs.declared.identifier.Identifier.{Identifier}
use Rattle.verilog_ast.specs.declared.generate_loop.Loop.{Loop}
use Rattle.verilog_ast.specs.declared.plain_item.PlainItem.{PlainItem}
use Rattle.verilog_ast.specs.declared.generate_item.Branch.{Branch}
use Rattle.verilog_ast.specs.declared.generate_item.GenerateItem.{GenerateItem}
use Rattle.verilog_ast.specs.declared.generate_item.GenerateItem.TheVariants as generate
use Rattle.verilog_ast.specs.declared.generate_item.GenerateItem.TheOpen.{GenerateItem-F}
use Rattle.verilog_ast.specs.declared.generate_item.GenerateItem.TheFolds.{fold-roll-GenerateItem, fold_out-Branch}
use Rattle.verilog_ast.specs.Renamed.{renamed_identifier, renamed_expression, renamed_plain_item, renamed_loop, generate_item_step, branch_step, renamed_generate_item, renamed_branch}

pub plain_so : (f : NameId → NameId) (x : PlainItem) → renamed_generate_item f (generate.Plain x) ≡ generate.Plain (renamed_plain_item f x)
plain_so f x =
    ap (renamed_generate_item f) (sym (generate.rolls-Plain x)) ∙ fold-roll-GenerateItem GenerateItem Branch (generate_item_step f) (branch_step f) (GenerateItem-F.Plain x)

pub loop_so : (f : NameId → NameId) (at : Place) (x : Loop) (n : Identifier) (ys : List GenerateItem)
    → renamed_generate_item f (generate.For at x n ys) ≡ generate.For at (renamed_loop f x) (renamed_identifier f n) (map (renamed_generate_item f) ys)
loop_so f at x n ys =
    ap (renamed_generate_item f) (sym (generate.rolls-For at x n ys)) ∙ fold-roll-GenerateItem GenerateItem Branch (generate_item_step f) (branch_step f) (GenerateItem-F.For at x n ys)

pub branches_so : (f : NameId → NameId) (xs : List Branch) → renamed_generate_item f (generate.If xs) ≡ generate.If (map (renamed_branch f) xs)
branches_so f xs =
    ap (renamed_generate_item f) (sym (generate.rolls-If xs)) ∙ fold-roll-GenerateItem GenerateItem Branch (generate_item_step f) (branch_step f) (GenerateItem-F.If xs)

pub branch_so : (f : NameId → NameId) (x : Branch) → renamed_branch f x ≡ record {
  at = x.at;
  condition = option_map (renamed_expression f) x.condition;
  label = renamed_identifier f x.label;
  items = map (renamed_generate_item f) x.items;
}
branch_so f x = fold_out-Branch GenerateItem Branch (generate_item_step f) (branch_step f) x
