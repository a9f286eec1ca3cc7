-- A text has one list of modules, or one fault, and not both.
use Rattle.std.proofs.Common.{◌≡◌, ◌∙◌, ℕ, List, ◌∷◌, ◌++◌, Err, refl, sym, ap, ap₂}
use Rattle.std.proofs.lemmas.List.{append_cancel_right}
use Rattle.ls_text.specs.declared.at.At.{At}
use Rattle.ls_text.specs.declared.at.At.TheVariants.{Text}
use Rattle.ls_text.specs.declared.name_id.NameId.{NameId}
use Rattle.ls_text.specs.declared.fault.Fault.{Fault}
use Rattle.ls_text.specs.declared.refusal.Refusal.TheVariants as refusal
use Rattle.ls_text.proofs.Cases.{same_err}
use Rattle.verilog_lex.specs.declared.token.Token.{Token}
use Rattle.verilog_ast.specs.declared.module_body.ModuleBody.{ModuleBody}
use Rattle.verilog_ast.specs.declared.module.Module.{Module}
use Rattle.verilog_ast.proofs.Equal.{ap₃}
use Rattle.verilog_expr.specs.declared.fault.ParseFault.{ParseFault}
use Rattle.verilog_expr.specs.Shown.{code_of, left_at, token_at, place_of, names_of, IsShownAs, Refuses, at_fault}
use Rattle.verilog_expr.proofs.Complete.{one_end}
use Rattle.verilog_expr.proofs.Refusals.{stuck_not_ok}
use Rattle.verilog_spelling.specs.Spellings.{spelling}
use Rattle.verilog_parse.specs.Files.{file, IsSpelledAs, SpellsAll, no_module, another_module, Stands}
use Rattle.verilog_expr.proofs.OneToken.{no_kind}
use Rattle.verilog_parse.proofs.OneModule.{one_module}

-- ---- modules

-- the tokens of the module are those before what is left
same_own : (own other s q r p : List Token) → s ≡ own ++ r → q ≡ other ++ p → s ≡ q → r ≡ p → own ≡ other
same_own own other s q r p cut cut' same left =
    append_cancel_right own other r (sym cut ∙ same ∙ cut' ∙ ap (λ (l : List Token). other ++ l) (sym left))

same_module : (x y : Module) → x.body ≡ y.body → x.spelling ≡ y.spelling → x ≡ y
same_module x y body text = ap₂ (λ (b : ModuleBody) (t : List ℕ). record { body = b; spelling = t }) body text

one_spelled : {names : List (List ℕ)} {x y : Module} {s q r p : List Token} → IsSpelledAs names x s r → IsSpelledAs names y q p → s ≡ q
    → (x ≡ y) × (r ≡ p)
one_spelled {names} {x} {y} {s} {q} {r} {p} h d same =
    let a = one_module h.tree d.tree same in
    let own = same_own h.own d.own s q r p h.cut d.cut same a.1 in
    (same_module x y a.0 (h.text ∙ ap (spelling names) own ∙ sym d.text), a.1)

one_modules : {names : List (List ℕ)} {xs ys : List Module} {s q r p : List Token} → SpellsAll names xs s r → SpellsAll names ys q p → s ≡ q
    → (xs ≡ ys) × (r ≡ p)
one_modules (no_module free) (no_module free') same = (refl, same)
one_modules (no_module free) (another_module is' x' xs') same = no_kind (sym is') free (sym same)
one_modules (another_module is x xs) (no_module free') same = no_kind (sym is) free' same
one_modules (another_module is x xs) (another_module is' x' xs') same =
    let a = one_spelled x x' same in let b = one_modules xs xs' a.1 in (ap₂ (λ (x : Module) (xs : List Module). x ∷ xs) a.0 b.0, b.1)

pub one_text : (names : List (List ℕ)) (xs ys : List Module) (s : List Token) → Stands names xs s → Stands names ys s → xs ≡ ys
one_text names xs ys s h d = (one_modules h.tree d.tree refl).0

-- ---- faults

same_shown : (s : List Token) (f g : ParseFault) (x y : Fault) → f ≡ g → IsShownAs s f x → IsShownAs s g y → x ≡ y
same_shown s f g x y same h d =
    let code = h.code ∙ ap code_of same ∙ sym d.code in
    let at = h.at ∙ ap (λ (f : ParseFault). Text (place_of (token_at s (left_at f)))) same ∙ sym d.at in
    let names = h.names ∙ ap (λ (f : ParseFault). names_of f (token_at s (left_at f))) same ∙ sym d.names in
    ap₃ (λ (c : ℕ) (a : At) (n : List NameId). record { code = c; at = a; names = n }) code at names

pub one_fault : (s : List Token) (x y : Fault) → Refuses file s (refusal.Fault x) → Refuses file s (refusal.Fault y) → x ≡ y
one_fault s x y (at_fault {f = f} run shown) (at_fault {f = g} run' shown') =
    same_shown s f g x y (same_err (Err f) f g refl (one_end run run')) shown shown'

-- ---- either

pub not_both : (names : List (List ℕ)) (xs : List Module) (s : List Token) (x : Fault) → Stands names xs s → Refuses file s (refusal.Fault x) → ⊥
not_both names xs s x h (at_fault {f = f} run shown) = stuck_not_ok h.taken run
