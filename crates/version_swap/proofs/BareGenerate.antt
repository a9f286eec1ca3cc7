-- An item of a generate block that stands for tokens stands without places for the tokens without theirs.
use Rattle.std.proofs.Common.{◌≡◌, ◌≢◌, List, map, true, false, Some, None, sym, subst}
use Rattle.verilog_lex.specs.declared.token.Token.{Token}
use Rattle.verilog_lex.specs.declared.kind.Kind.{Kind}
use Rattle.verilog_lex.specs.declared.kind.Kind.TheVariants as k
use Rattle.verilog_ast.specs.Places.{no_place}
use Rattle.verilog_ast.specs.declared.generate_item.Branch.{Branch}
use Rattle.verilog_ast.specs.declared.generate_item.GenerateItem.{GenerateItem}
use Rattle.version_swap.specs.Unplaced.{unplaced_name}
use Rattle.version_swap.proofs.BareForms.{bare_loop, bare_generate_item, bare_branch, bare_tokens}
use Rattle.verilog_expr.specs.Grammar.{begins_generate_item}
use Rattle.version_swap.proofs.BareTokens.{at_next, takes_so}
use Rattle.version_swap.proofs.BareSpells.{spells_so}
use Rattle.verilog_parse.specs.Generates.{Phrase, Spells, GenerateItems, AGenerateItem, ALoop, ALoopHead, ABlock, ABranch, AnOtherwise, BranchesBehind, OtherBranches, no_item, another_item, loop_item, if_item, plain_item, generate_loop, loop_head, block, branch, otherwise, branches_behind, no_branch, another_branch, last_branch}
use Rattle.version_swap.proofs.BareGenerateTrees.{plain_so, loop_so, branches_so, branch_so}
use Rattle.version_swap.proofs.BareDeclaration.{declaration_so}
use Rattle.version_swap.proofs.BareItem.{item_so}

abbrev pub bare_phrase : Phrase → Phrase
bare_phrase (GenerateItems x) = GenerateItems (map bare_generate_item x)
bare_phrase (AGenerateItem x) = AGenerateItem (bare_generate_item x)
bare_phrase (ALoop x) = ALoop (bare_generate_item x)
bare_phrase (ALoopHead x) = ALoopHead (bare_loop x)
bare_phrase (ABlock x y z) = ABlock no_place (unplaced_name y) (map bare_generate_item z)
bare_phrase (ABranch x) = ABranch (bare_branch x)
bare_phrase (AnOtherwise x) = AnOtherwise (bare_branch x)
bare_phrase (BranchesBehind x y) = BranchesBehind (bare_branch x) (map bare_branch y)
bare_phrase (OtherBranches x) = OtherBranches (map bare_branch x)

pub generate_so : {phrase : Phrase} {s r : List Token} → Spells phrase s r
    → Spells (bare_phrase phrase) (bare_tokens s) (bare_tokens r)
generate_so (no_item {s = s} h) = no_item (at_next s (λ (kind : Kind). begins_generate_item kind ≡ false) h)
generate_so (another_item {s = s} h i j) =
    another_item (at_next s (λ (kind : Kind). begins_generate_item kind ≡ true) h) (generate_so i) (generate_so j)
generate_so (loop_item {s = s} h i) = loop_item (at_next s (λ (kind : Kind). k.For ≡ kind) h) (generate_so i)
generate_so (if_item {xs = xs} {s = s} {r = r} h i j) =
    subst (λ (z : GenerateItem). Spells (AGenerateItem z) (bare_tokens s) (bare_tokens r)) (sym (branches_so xs))
    (if_item (at_next s (λ (kind : Kind). k.If ≡ kind) h) (generate_so i) (generate_so j))
generate_so (plain_item {x = x} {s = s} {r = r} h i j) =
    subst (λ (z : GenerateItem). Spells (AGenerateItem z) (bare_tokens s) (bare_tokens r)) (sym (plain_so x))
    (plain_item (at_next s (λ (kind : Kind). kind ≢ k.For) h) (at_next s (λ (kind : Kind). kind ≢ k.If) i) (item_so j))
generate_so (generate_loop {x = x} {y = y} {ys = ys} {at = at} {s = s} {r = r} {t = t} h i j o q) =
    subst (λ (z : GenerateItem). Spells (ALoop z) (bare_tokens s) (bare_tokens r)) (sym (loop_so t.at x y ys))
    (generate_loop (takes_so h) (takes_so i) (generate_so j) (takes_so o) (generate_so q))
generate_so (loop_head h i j o q) = loop_head (declaration_so h) (takes_so i) (spells_so j) (takes_so o) (declaration_so q)
generate_so (block h i j o q) = block (takes_so h) (takes_so i) (takes_so j) (generate_so o) (takes_so q)
generate_so (branch {x = x} {y = y} {ys = ys} {at = at} {s = s} {r = r} {t = t} h i j o q) =
    subst (λ (z : Branch). Spells (ABranch z) (bare_tokens s) (bare_tokens r))
    (sym (branch_so (record { at = t.at; condition = Some x; label = y; items = ys })))
    (branch (takes_so h) (takes_so i) (spells_so j) (takes_so o) (generate_so q))
generate_so (otherwise {at = at} {y = y} {ys = ys} {s = s} {r = r} h) =
    subst (λ (z : Branch). Spells (AnOtherwise z) (bare_tokens s) (bare_tokens r))
    (sym (branch_so (record { at = at; condition = None; label = y; items = ys })))
    (otherwise (generate_so h))
generate_so (branches_behind h) = branches_behind (generate_so h)
generate_so (no_branch {s = s} h) = no_branch (at_next s (λ (kind : Kind). kind ≢ k.Else) h)
generate_so (another_branch {a = a} h i j o) =
    another_branch (takes_so h) (at_next a (λ (kind : Kind). k.If ≡ kind) i) (generate_so j) (generate_so o)
generate_so (last_branch {a = a} h i j) = last_branch (takes_so h) (at_next a (λ (kind : Kind). kind ≢ k.If) i) (generate_so j)
