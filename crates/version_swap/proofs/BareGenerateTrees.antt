-- Items of generate blocks without places, variant by variant.
use Rattle.std.proofs.Common.{◌≡◌, ◌∙◌, List, map, sym, ap}
use Rattle.std.specs.Option.{option_map}
use Rattle.ls_text.specs.declared.place.Place.{Place}
use Rattle.verilog_ast.specs.Places.{no_place}
use Rattle.verilog_ast.specs.declared.identifier.Identifier.{Identifier}
use Rattle.verilog_ast.specs.declared.generate_loop.Loop.{Loop}
use Rattle.verilog_ast.specs.declared.plain_item.PlainItem.{PlainItem}
use Rattle.verilog_ast.specs.declared.generate_item.Branch.{Branch}
use Rattle.verilog_ast.specs.declared.generate_item.GenerateItem.{GenerateItem}
use Rattle.verilog_ast.specs.declared.generate_item.GenerateItem.TheVariants as generate
use Rattle.verilog_ast.specs.declared.generate_item.GenerateItem.TheOpen.{GenerateItem-F}
use Rattle.verilog_ast.specs.declared.generate_item.GenerateItem.TheFolds.{fold-roll-GenerateItem, fold_out-Branch}
use Rattle.version_swap.specs.Unplaced.{unplaced_name}
use Rattle.version_swap.proofs.BareForms.{bare_expression, bare_plain_item, bare_loop, generate_item_step, branch_step, bare_generate_item, bare_branch}

pub plain_so : (x : PlainItem) → bare_generate_item (generate.Plain x) ≡ generate.Plain (bare_plain_item x)
plain_so x =
    ap bare_generate_item (sym (generate.rolls-Plain x)) ∙ fold-roll-GenerateItem GenerateItem Branch generate_item_step branch_step
    (GenerateItem-F.Plain x)

pub loop_so : (at : Place) (x : Loop) (n : Identifier) (ys : List GenerateItem)
    → bare_generate_item (generate.For at x n ys) ≡ generate.For no_place (bare_loop x) (unplaced_name n) (map bare_generate_item ys)
loop_so at x n ys =
    ap bare_generate_item (sym (generate.rolls-For at x n ys))
    ∙ fold-roll-GenerateItem GenerateItem Branch generate_item_step branch_step (GenerateItem-F.For at x n ys)

pub branches_so : (xs : List Branch) → bare_generate_item (generate.If xs) ≡ generate.If (map bare_branch xs)
branches_so xs =
    ap bare_generate_item (sym (generate.rolls-If xs)) ∙ fold-roll-GenerateItem GenerateItem Branch generate_item_step branch_step
    (GenerateItem-F.If xs)

pub branch_so : (x : Branch) → bare_branch x ≡ record {
  at = no_place;
  condition = option_map bare_expression x.condition;
  label = unplaced_name x.label;
  items = map bare_generate_item x.items;
}
branch_so x = fold_out-Branch GenerateItem Branch generate_item_step branch_step x
