-- What is left of proper tokens behind a part of a module, and nodes of generate blocks by their variants.
use Rattle.std.proofs.Common.{◌≡◌, ℕ, List, [], ◌∷◌, ◌++◌, All, refl, subst}
use Rattle.std.proofs.lemmas.List.Elements.{All-head, All-tail}
use Rattle.verilog_lex.specs.declared.kind.Kind.{Kind}
use Rattle.verilog_lex.specs.declared.token.Token.{Token}
use Rattle.verilog_ast.specs.declared.generate_item.Branch.{Branch}
use Rattle.verilog_ast.specs.declared.generate_item.GenerateItem.{GenerateItem, roll-GenerateItem}
use Rattle.verilog_ast.specs.declared.generate_item.GenerateItem.TheFolds.{fold-roll-GenerateItem, map-GenerateItem}
use Rattle.verilog_ast.specs.declared.generate_item.GenerateItem.TheOpen.{GenerateItem-F}
use Rattle.verilog_ast.specs.Items.{ModuleItem}
use Rattle.verilog_ast.specs.Views.{generate_item_view, branch_view, generate_item_of, branch_of}
use Rattle.verilog_expr.specs.Spells as expressions
use Rattle.verilog_expr.specs.Tokens.{Takes, taken}
use Rattle.verilog_decl.specs.Declarations as declarations
use Rattle.verilog_decl.specs.Headers as headers
use Rattle.verilog_parse.specs.Generates as generates
use Rattle.verilog_parse.specs.Modules as modules
use Rattle.version_swap.specs.Proper.{IsProper}
use Rattle.version_swap.proofs.Behind.{IsBefore}
use Rattle.version_swap.proofs.BehindDeclaration.{declaration_behind}
use Rattle.version_swap.proofs.BehindExpression.{expression_behind}
use Rattle.version_swap.proofs.BehindGenerate.{generate_behind}
use Rattle.version_swap.proofs.BehindHeader.{header_behind}
use Rattle.version_swap.proofs.BehindModule.{module_behind}

-- a node of a generate block by its variant
pub viewed : (l : GenerateItem-F GenerateItem Branch)
    → generate_item_of (roll-GenerateItem l)
    ≡ generate_item_view (map-GenerateItem GenerateItem Branch ModuleItem ModuleItem generate_item_of branch_of l)
viewed l = fold-roll-GenerateItem ModuleItem ModuleItem generate_item_view branch_view l

-- nothing stands before a list but the list
itself : (r : List Token) → IsBefore r r r r
itself r = record { front = []; old = refl; new = refl; kind = refl; place = refl }

module _ (names : List (List ℕ)) where
  abbrev AreProper : List Token → Type 0
  AreProper s = All (IsProper names) s

  rest : (front r : List Token) → AreProper (front ++ r) → AreProper r
  rest [] r all = all
  rest (t ∷ front) r all = rest front r (All-tail (IsProper names) t (front ++ r) all)

  left : {r s p : List Token} → IsBefore r r s p → AreProper s → AreProper r
  left {r} b all = rest b.front r (subst AreProper b.old all)

  pub token : {kind : Kind} {s r : List Token} {t : Token} → Takes kind s r t → AreProper s → IsProper names t × AreProper r
  token {r = r} (taken {token = t} cut is) all =
      let here : AreProper (t ∷ r) = subst AreProper cut all in (All-head (IsProper names) t r here, All-tail (IsProper names) t r here)

  pub behind_declaration : {phrase : declarations.Phrase} {s r : List Token} → declarations.Spells phrase s r → AreProper s → AreProper r
  behind_declaration {r = r} tree = left (declaration_behind tree (itself r)).before

  pub behind_header : {phrase : headers.Phrase} {s r : List Token} → headers.Spells phrase s r → AreProper s → AreProper r
  behind_header {r = r} tree = left (header_behind tree (itself r)).before

  pub behind_generate : {phrase : generates.Phrase} {s r : List Token} → generates.Spells phrase s r → AreProper s → AreProper r
  behind_generate {r = r} tree = left (generate_behind tree (itself r)).before

  pub behind_module : {phrase : modules.Phrase} {s r : List Token} → modules.Spells phrase s r → AreProper s → AreProper r
  behind_module {r = r} tree = left (module_behind tree (itself r)).before

  pub behind_expression : {phrase : expressions.Phrase} {s r : List Token} → expressions.Spells phrase s r → AreProper s → AreProper r
  behind_expression {r = r} tree = left (expression_behind tree (itself r)).before
