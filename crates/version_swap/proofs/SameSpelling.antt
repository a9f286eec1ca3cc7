-- Two modules of one spelling are the same but for places.
use Rattle.std.proofs.Common.{◌≡◌, ◌∙◌, ℕ, List, sym}
use Rattle.ls_text.specs.Texts.{HasEachOnce}
use Rattle.verilog_ast.specs.declared.module.Module.{Module}
use Rattle.verilog_ast.specs.Views.{declaration_of}
use Rattle.version_swap.specs.Spelled.{IsSpelledUnder}
use Rattle.version_swap.specs.Unplaced.{unplaced_declaration}
use Rattle.version_swap.proofs.SameModule.{same_body}
use Rattle.version_swap.proofs.SameTokens.{same_tokens}

pub same_declaration : (names : List (List ℕ)) (x y : Module) → HasEachOnce names → IsSpelledUnder names x → IsSpelledUnder names y
    → x.spelling ≡ y.spelling → unplaced_declaration (declaration_of x.body) ≡ unplaced_declaration (declaration_of y.body)
same_declaration names x y once h d same =
    let a = h.spelled in let b = d.spelled in
    same_body a.own b.own a.cut a.tree b.cut b.tree (same_tokens names once a.own b.own h.proper d.proper (sym a.text ∙ same ∙ b.text))
