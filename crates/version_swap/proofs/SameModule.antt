-- A module is the same but for places where the tokens that it stands for are.
use Rattle.std.proofs.Common.{◌≡◌, List, [], ◌++◌, sym, ap, ◌∙◌, subst}
use Rattle.std.proofs.lemmas.List.{append_cancel_right, append-nil}
use Rattle.verilog_lex.specs.declared.token.Token.{Token}
use Rattle.verilog_ast.specs.declared.module_body.ModuleBody.{ModuleBody}
use Rattle.verilog_ast.specs.Views.{declaration_of}
use Rattle.verilog_parse.specs.Modules.{Spells, AModule, module_}
use Rattle.verilog_parse.proofs.OneModule.{one_module}
use Rattle.version_swap.specs.Unplaced.{unplaced_declaration}
use Rattle.version_swap.proofs.BareForms.{bare_body, bare_tokens}
use Rattle.version_swap.proofs.BareItemViews.{same_declaration}
use Rattle.version_swap.proofs.BareModule.{module_so}
use Rattle.version_swap.proofs.Behind.{Behind, token_behind, token_last}
use Rattle.version_swap.proofs.BehindHeader.{header_behind}
use Rattle.version_swap.proofs.BehindModule.{module_behind}

-- whatever is behind a module
last_behind : {r : List Token} (e : List Token) {x : ModuleBody} {s : List Token} → Spells (AModule x) s r → Behind r e (Spells (AModule x)) s e
last_behind e (module_ h i j o q) =
    let q' = token_last e q in let o' = module_behind o q'.before in let j' = header_behind j o'.before in let i' = token_behind i j'.before in
    let h' = token_behind h i'.before in record { start = h'.start; before = h'.before; tree = module_ h'.tree i'.tree j'.tree o'.tree q'.tree }

pub module_alone : {x : ModuleBody} {s r : List Token} (own : List Token) → s ≡ own ++ r → Spells (AModule x) s r → Spells (AModule x) own []
module_alone {x} {s} {r} own cut tree =
    let l = last_behind [] tree in
    let front : l.before.front ≡ own = append_cancel_right l.before.front own r (sym l.before.old ∙ cut) in
    let start : l.start ≡ own = l.before.new ∙ append-nil l.before.front ∙ front in
    subst (λ (l : List Token). Spells (AModule x) l []) start l.tree

pub same_body : {x y : ModuleBody} {s r q p : List Token} (own other : List Token) → s ≡ own ++ r → Spells (AModule x) s r → q ≡ other ++ p
    → Spells (AModule y) q p → bare_tokens own ≡ bare_tokens other
    → unplaced_declaration (declaration_of x) ≡ unplaced_declaration (declaration_of y)
same_body {x} {y} own other cut tree cut' tree' same =
    let one : bare_body x ≡ bare_body y = (one_module (module_so (module_alone own cut tree)) (module_so (module_alone other cut' tree')) same).0 in
    sym (same_declaration x) ∙ ap declaration_of one ∙ same_declaration y
