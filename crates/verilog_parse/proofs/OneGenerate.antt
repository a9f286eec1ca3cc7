-- An item of a generate block is read in one way.
use Rattle.std.proofs.Common.{◌≡◌, List, [], ◌∷◌, Some, None, refl, sym, ap, ap₂}
use Rattle.ls_text.specs.declared.place.Place.{Place}
use Rattle.verilog_lex.specs.declared.token.Token.{Token}
use Rattle.verilog_ast.specs.declared.identifier.Identifier.{Identifier}
use Rattle.verilog_ast.specs.declared.expression.Expr.{Expr}
use Rattle.verilog_ast.specs.declared.parameter.Parameter.{Parameter}
use Rattle.verilog_ast.specs.declared.generate_loop.Loop.{Loop}
use Rattle.verilog_ast.specs.declared.generate_item.Branch.{Branch}
use Rattle.verilog_ast.specs.declared.generate_item.GenerateItem.{GenerateItem}
use Rattle.verilog_ast.specs.declared.generate_item.GenerateItem.TheVariants as item
use Rattle.verilog_ast.proofs.Equal.{ap₃, ap₄}
use Rattle.verilog_expr.specs.Tokens.{identifier_of}
use Rattle.verilog_expr.specs.Grammar.{begins_generate_item}
use Rattle.verilog_parse.specs.Generates.{Spells, GenerateItems, AGenerateItem, ALoop, ALoopHead, ABlock, ABranch, AnOtherwise, BranchesBehind, OtherBranches}
use Rattle.verilog_parse.specs.Generates.{no_item, another_item, loop_item, if_item, plain_item, generate_loop, loop_head, block, branch, otherwise, branches_behind, no_branch, another_branch, last_branch}
use Rattle.verilog_expr.proofs.OneToken.{kind_of, same_token, two_kinds, no_kind, no_beginning}
use Rattle.verilog_expr.proofs.SameReadings.{same_expression}
use Rattle.verilog_decl.proofs.OneDeclaration.{one_parameter}
use Rattle.verilog_parse.proofs.OneItem.{one_plain_item}

one_loop_head : {x y : Loop} {s q r p : List Token} → Spells (ALoopHead x) s r → Spells (ALoopHead y) q p → s ≡ q → (x ≡ y) × (r ≡ p)
one_loop_head (loop_head x t y u z) (loop_head x' t' y' u' z') same =
    let a = one_parameter x x' same in let b = same_token t t' a.1 in let c = same_expression y y' b.1 in let d = same_token u u' c.1 in
    let e = one_parameter z z' d.1 in
    (ap₃ (λ (x : Parameter) (y : Expr) (z : Parameter). record { start = x; condition = y; step = z }) a.0 c.0 e.0, e.1)

mutual
  pub one_generate_items : {x y : List GenerateItem} {s q r p : List Token} → Spells (GenerateItems x) s r → Spells (GenerateItems y) q p → s ≡ q
      → (x ≡ y) × (r ≡ p)
  one_generate_items (no_item free) (no_item free') same = (refl, same)
  one_generate_items (no_item free) (another_item go' x' xs') same = no_beginning begins_generate_item go' free (sym same)
  one_generate_items (another_item go x xs) (no_item free') same = no_beginning begins_generate_item go free' same
  one_generate_items (another_item go x xs) (another_item go' x' xs') same =
      let a = one_generate_item x x' same in let b = one_generate_items xs xs' a.1 in
      (ap₂ (λ (x : GenerateItem) (xs : List GenerateItem). x ∷ xs) a.0 b.0, b.1)

  pub one_generate_item : {x y : GenerateItem} {s q r p : List Token} → Spells (AGenerateItem x) s r → Spells (AGenerateItem y) q p → s ≡ q
      → (x ≡ y) × (r ≡ p)
  one_generate_item (loop_item is x) (loop_item is' x') same = one_loop x x' same
  one_generate_item (loop_item is x) (if_item is' x' xs') same = two_kinds (sym is) (sym is') same (λ is. cc)
  one_generate_item (loop_item is x) (plain_item free' others' x') same = no_kind (sym is) free' same
  one_generate_item (if_item is x xs) (loop_item is' x') same = two_kinds (sym is) (sym is') same (λ is. cc)
  one_generate_item (if_item is x xs) (if_item is' x' xs') same =
      let a = one_branch x x' same in let b = one_branches_behind xs xs' a.0 a.1 in (ap item.If b.0, b.1)
  one_generate_item (if_item is x xs) (plain_item free' others' x') same = no_kind (sym is) others' same
  one_generate_item (plain_item free others x) (loop_item is' x') same = no_kind (sym is') free (sym same)
  one_generate_item (plain_item free others x) (if_item is' x' xs') same = no_kind (sym is') others (sym same)
  one_generate_item (plain_item free others x) (plain_item free' others' x') same = let a = one_plain_item x x' same in (ap item.Plain a.0, a.1)

  one_loop : {x y : GenerateItem} {s q r p : List Token} → Spells (ALoop x) s r → Spells (ALoop y) q p → s ≡ q → (x ≡ y) × (r ≡ p)
  one_loop (generate_loop t u x v y) (generate_loop t' u' x' v' y') same =
      let a = same_token t t' same in let b = same_token u u' a.1 in let c = one_loop_head x x' b.1 in let d = same_token v v' c.1 in
      let e = one_block y y' d.1 in
      (ap₄ (λ (t : Token) (x : Loop) (y : Identifier) (ys : List GenerateItem). item.For t.at x y ys) a.0 c.0 e.1 e.2, e.3)

  one_block : {x y : Place} {u v : Identifier} {m n : List GenerateItem} {s q r p : List Token} → Spells (ABlock x u m) s r
      → Spells (ABlock y v n) q p → s ≡ q → (x ≡ y) × (u ≡ v) × (m ≡ n) × (r ≡ p)
  one_block (block t u v xs z) (block t' u' v' xs' z') same =
      let a = same_token t t' same in let b = same_token u u' a.1 in let c = same_token v v' b.1 in let d = one_generate_items xs xs' c.1 in
      let e = same_token z z' d.1 in (ap (λ (t : Token). t.at) a.0, ap identifier_of c.0, d.0, e.1)

  one_branch : {x y : Branch} {s q r p : List Token} → Spells (ABranch x) s r → Spells (ABranch y) q p → s ≡ q → (x ≡ y) × (r ≡ p)
  one_branch (branch t u x v y) (branch t' u' x' v' y') same =
      let a = same_token t t' same in let b = same_token u u' a.1 in let c = same_expression x x' b.1 in let d = same_token v v' c.1 in
      let e = one_block y y' d.1 in (
        ap₄ (λ (t : Token) (x : Expr) (y : Identifier) (ys : List GenerateItem). record { at = t.at; condition = Some x; label = y; items = ys })
            a.0 c.0 e.1 e.2,
        e.3,
      )

  one_otherwise : {x y : Branch} {s q r p : List Token} → Spells (AnOtherwise x) s r → Spells (AnOtherwise y) q p → s ≡ q → (x ≡ y) × (r ≡ p)
  one_otherwise (otherwise y) (otherwise y') same =
      let a = one_block y y' same in
      (ap₃ (λ (at : Place) (y : Identifier) (ys : List GenerateItem). record { at = at; condition = None; label = y; items = ys }) a.0 a.1 a.2, a.3)

  one_branches_behind : {x y : Branch} {u v : List Branch} {s q r p : List Token} → Spells (BranchesBehind x u) s r
      → Spells (BranchesBehind y v) q p → x ≡ y → s ≡ q → (u ≡ v) × (r ≡ p)
  one_branches_behind (branches_behind xs) (branches_behind xs') is same =
      let a = one_other_branches xs xs' same in (ap₂ (λ (x : Branch) (xs : List Branch). x ∷ xs) is a.0, a.1)

  one_other_branches : {x y : List Branch} {s q r p : List Token} → Spells (OtherBranches x) s r → Spells (OtherBranches y) q p → s ≡ q
      → (x ≡ y) × (r ≡ p)
  one_other_branches (no_branch free) (no_branch free') same = (refl, same)
  one_other_branches (no_branch free) (another_branch t' is' x' xs') same = no_kind (kind_of t') free (sym same)
  one_other_branches (no_branch free) (last_branch t' free' x') same = no_kind (kind_of t') free (sym same)
  one_other_branches (another_branch t is x xs) (no_branch free') same = no_kind (kind_of t) free' same
  one_other_branches (another_branch t is x xs) (another_branch t' is' x' xs') same =
      let a = same_token t t' same in let b = one_branch x x' a.1 in let c = one_other_branches xs xs' b.1 in
      (ap₂ (λ (x : Branch) (xs : List Branch). x ∷ xs) b.0 c.0, c.1)
  one_other_branches (another_branch t is x xs) (last_branch t' free' x') same = no_kind (sym is) free' (same_token t t' same).1
  one_other_branches (last_branch t free x) (no_branch free') same = no_kind (kind_of t) free' same
  one_other_branches (last_branch t free x) (another_branch t' is' x' xs') same = no_kind (sym is') free (sym (same_token t t' same).1)
  one_other_branches (last_branch t free x) (last_branch t' free' x') same =
      let a = same_token t t' same in let b = one_otherwise x x' a.1 in (ap (λ (x : Branch). x ∷ []) b.0, b.1)
