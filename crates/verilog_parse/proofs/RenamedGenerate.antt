-- An item of a generate block that stands for tokens stands under other names for the tokens under these.
use Rattle.std.proofs.Common.{◌≡◌, ◌≢◌, List, map, true, false, Some, None, sym, subst}
use Rattle.ls_text.specs.declared.name_id.NameId.{NameId}
use Rattle.verilog_lex.specs.declared.token.Token.{Token}
use Rattle.verilog_lex.specs.declared.kind.Kind.{Kind}
use Rattle.verilog_lex.specs.declared.kind.Kind.TheVariants as k
use Rattle.verilog_ast.specs.declared.generate_item.Branch.{Branch}
use Rattle.verilog_ast.specs.declared.generate_item.GenerateItem.{GenerateItem}
use Rattle.verilog_ast.specs.Renamed.{renamed_identifier, renamed_loop, renamed_generate_item, renamed_branch}
use Rattle.verilog_expr.specs.Grammar.{begins_generate_item}
use Rattle.verilog_expr.specs.Renamed.{retokens}
use Rattle.verilog_expr.proofs.RenamedTokens.{at_next, takes_so}
use Rattle.verilog_expr.proofs.RenamedSpells.{spells_so}
use Rattle.verilog_parse.specs.Generates.{Phrase, Spells, GenerateItems, AGenerateItem, ALoop, ALoopHead, ABlock, ABranch, AnOtherwise, BranchesBehind, OtherBranches, no_item, another_item, loop_item, if_item, plain_item, generate_loop, loop_head, block, branch, otherwise, branches_behind, no_branch, another_branch, last_branch}
use Rattle.verilog_parse.proofs.RenamedTrees.{plain_so, loop_so, branches_so, branch_so}
use Rattle.verilog_decl.proofs.RenamedDeclaration.{declaration_so}
use Rattle.verilog_parse.proofs.RenamedItem.{item_so}

abbrev pub renamed_phrase : (NameId → NameId) → Phrase → Phrase
renamed_phrase f (GenerateItems x) = GenerateItems (map (renamed_generate_item f) x)
renamed_phrase f (AGenerateItem x) = AGenerateItem (renamed_generate_item f x)
renamed_phrase f (ALoop x) = ALoop (renamed_generate_item f x)
renamed_phrase f (ALoopHead x) = ALoopHead (renamed_loop f x)
renamed_phrase f (ABlock x y z) = ABlock x (renamed_identifier f y) (map (renamed_generate_item f) z)
renamed_phrase f (ABranch x) = ABranch (renamed_branch f x)
renamed_phrase f (AnOtherwise x) = AnOtherwise (renamed_branch f x)
renamed_phrase f (BranchesBehind x y) = BranchesBehind (renamed_branch f x) (map (renamed_branch f) y)
renamed_phrase f (OtherBranches x) = OtherBranches (map (renamed_branch f) x)

pub generate_so : (f : NameId → NameId) {phrase : Phrase} {s r : List Token} → Spells phrase s r
    → Spells (renamed_phrase f phrase) (retokens f s) (retokens f r)
generate_so f (no_item {s = s} h) = no_item (at_next f s (λ (kind : Kind). begins_generate_item kind ≡ false) h)
generate_so f (another_item {s = s} h i j) =
    another_item (at_next f s (λ (kind : Kind). begins_generate_item kind ≡ true) h) (generate_so f i) (generate_so f j)
generate_so f (loop_item {s = s} h i) = loop_item (at_next f s (λ (kind : Kind). k.For ≡ kind) h) (generate_so f i)
generate_so f (if_item {xs = xs} {s = s} {r = r} h i j) =
    subst (λ (z : GenerateItem). Spells (AGenerateItem z) (retokens f s) (retokens f r)) (sym (branches_so f xs))
    (if_item (at_next f s (λ (kind : Kind). k.If ≡ kind) h) (generate_so f i) (generate_so f j))
generate_so f (plain_item {x = x} {s = s} {r = r} h i j) =
    subst (λ (z : GenerateItem). Spells (AGenerateItem z) (retokens f s) (retokens f r)) (sym (plain_so f x))
    (plain_item (at_next f s (λ (kind : Kind). kind ≢ k.For) h) (at_next f s (λ (kind : Kind). kind ≢ k.If) i) (item_so f j))
generate_so f (generate_loop {x = x} {y = y} {ys = ys} {at = at} {s = s} {r = r} {t = t} h i j o q) =
    subst (λ (z : GenerateItem). Spells (ALoop z) (retokens f s) (retokens f r)) (sym (loop_so f t.at x y ys))
    (generate_loop (takes_so f h) (takes_so f i) (generate_so f j) (takes_so f o) (generate_so f q))
generate_so f (loop_head h i j o q) = loop_head (declaration_so f h) (takes_so f i) (spells_so f j) (takes_so f o) (declaration_so f q)
generate_so f (block h i j o q) = block (takes_so f h) (takes_so f i) (takes_so f j) (generate_so f o) (takes_so f q)
generate_so f (branch {x = x} {y = y} {ys = ys} {at = at} {s = s} {r = r} {t = t} h i j o q) =
    subst (λ (z : Branch). Spells (ABranch z) (retokens f s) (retokens f r))
    (sym (branch_so f (record { at = t.at; condition = Some x; label = y; items = ys })))
    (branch (takes_so f h) (takes_so f i) (spells_so f j) (takes_so f o) (generate_so f q))
generate_so f (otherwise {at = at} {y = y} {ys = ys} {s = s} {r = r} h) =
    subst (λ (z : Branch). Spells (AnOtherwise z) (retokens f s) (retokens f r))
    (sym (branch_so f (record { at = at; condition = None; label = y; items = ys })))
    (otherwise (generate_so f h))
generate_so f (branches_behind h) = branches_behind (generate_so f h)
generate_so f (no_branch {s = s} h) = no_branch (at_next f s (λ (kind : Kind). kind ≢ k.Else) h)
generate_so f (another_branch {a = a} h i j o) =
    another_branch (takes_so f h) (at_next f a (λ (kind : Kind). k.If ≡ kind) i) (generate_so f j) (generate_so f o)
generate_so f (last_branch {a = a} h i j) = last_branch (takes_so f h) (at_next f a (λ (kind : Kind). kind ≢ k.If) i) (generate_so f j)
