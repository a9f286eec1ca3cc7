-- A text's modules and its fault depend on its tokens alone, whatever numbers their names have.
use Rattle.std.proofs.Common.{◌≡◌, ◌∙◌, ◌≢◌, ℕ, List, [], ◌∷◌, map, Err, refl, sym, ap, ap₂, subst}
use Rattle.ls_text.specs.declared.name_id.NameId.{NameId}
use Rattle.ls_text.proofs.Cases.{same_err}
use Rattle.verilog_lex.specs.declared.token.Token.{Token}
use Rattle.verilog_lex.specs.declared.kind.Kind.{Kind}
use Rattle.verilog_lex.specs.declared.kind.Kind.TheVariants as k
use Rattle.verilog_ast.specs.declared.module_body.ModuleBody.{ModuleBody}
use Rattle.verilog_ast.specs.declared.module.Module.{Module}
use Rattle.verilog_ast.specs.Renamed.{renamed_body}
use Rattle.verilog_ast.specs.Views.{declaration_of, declarations_of}
use Rattle.verilog_ast.specs.Renaming.{declaration_as}
use Rattle.verilog_ast.proofs.RenamedItemViews.{same_declaration}
use Rattle.verilog_expr.specs.declared.fault.ParseFault.{ParseFault}
use Rattle.verilog_expr.specs.Tokens.{next}
use Rattle.verilog_expr.specs.Renamed.{retokens}
use Rattle.verilog_expr.specs.Machine.{Outcome, Run}
use Rattle.verilog_expr.proofs.Complete.{one_end}
use Rattle.verilog_expr.proofs.Refusals.{stuck_not_ok}
use Rattle.verilog_expr.proofs.RenamedTokens.{at_next}
use Rattle.verilog_expr.proofs.RenamedRun.{run_so}
use Rattle.verilog_parse.specs.Modules.{Spells, AModule}
use Rattle.verilog_parse.specs.Files.{file, SpellsAll, no_module, another_module, Stands}
use Rattle.verilog_expr.proofs.OneToken.{no_kind}
use Rattle.verilog_parse.proofs.OneModule.{one_module}
use Rattle.verilog_parse.proofs.RenamedModule.{module_so}

-- modules without their spellings, up to what is none
data Bodies : List ModuleBody → List Token → List Token → Type 0 where
  no_body : {s : List Token} → next s ≢ k.Module → Bodies [] s s
  another_body : {x : ModuleBody} {xs : List ModuleBody} {s a r : List Token} → k.Module ≡ next s → Spells (AModule x) s a → Bodies xs a r
      → Bodies (x ∷ xs) s r

bodies_so : (f : NameId → NameId) {names : List (List ℕ)} {xs : List Module} {s r : List Token} → SpellsAll names xs s r
    → Bodies (map (λ x. renamed_body f x.body) xs) (retokens f s) (retokens f r)
bodies_so f (no_module {s = s} free) = no_body (at_next f s (λ (kind : Kind). kind ≢ k.Module) free)
bodies_so f (another_module {s = s} is x xs) =
    another_body (at_next f s (λ (kind : Kind). k.Module ≡ kind) is) (module_so f x.tree) (bodies_so f xs)

one_bodies : {xs ys : List ModuleBody} {s q r p : List Token} → Bodies xs s r → Bodies ys q p → s ≡ q → (xs ≡ ys) × (r ≡ p)
one_bodies (no_body free) (no_body free') same = (refl, same)
one_bodies (no_body free) (another_body is' x' xs') same = no_kind (sym is') free (sym same)
one_bodies (another_body is x xs) (no_body free') same = no_kind (sym is) free' same
one_bodies (another_body is x xs) (another_body is' x' xs') same =
    let a = one_module x x' same in let b = one_bodies xs xs' a.1 in (ap₂ (λ (x : ModuleBody) (xs : List ModuleBody). x ∷ xs) a.0 b.0, b.1)

pub same_modules : (f g : NameId → NameId) (names other : List (List ℕ)) (xs ys : List Module) (s q : List Token) → retokens f s ≡ retokens g q
    → Stands names xs s → Stands other ys q → map (λ x. renamed_body f x.body) xs ≡ map (λ y. renamed_body g y.body) ys
same_modules f g names other xs ys s q same h d = (one_bodies (bodies_so f h.tree) (bodies_so g d.tree) same).0

-- ---- the same as plain data

viewed_so : (f : NameId → NameId) (xs : List Module) → map declaration_of (map (λ x. renamed_body f x.body) xs) ≡ map (declaration_as f) (declarations_of xs)
viewed_so f [] = refl
viewed_so f (x ∷ xs) = ap₂ (λ y ys. y ∷ ys) (same_declaration f x.body) (viewed_so f xs)

pub same_declarations : (f g : NameId → NameId) (names other : List (List ℕ)) (xs ys : List Module) (s q : List Token) → retokens f s ≡ retokens g q
    → Stands names xs s → Stands other ys q → map (declaration_as f) (declarations_of xs) ≡ map (declaration_as g) (declarations_of ys)
same_declarations f g names other xs ys s q same h d =
    sym (viewed_so f xs) ∙ ap (map declaration_of) (same_modules f g names other xs ys s q same h d) ∙ viewed_so g ys

-- ---- faults

one_outcome : (f g : NameId → NameId) (s q : List Token) (o p : Outcome) → retokens f s ≡ retokens g q → Run file (retokens f s) o
    → Run file (retokens g q) p → o ≡ p
one_outcome f g s q o p same h d = one_end h (subst (λ (l : List Token). Run file l p) (sym same) d)

pub not_both : (f g : NameId → NameId) (names : List (List ℕ)) (xs : List Module) (s q : List Token) (x : ParseFault) → retokens f s ≡ retokens g q
    → Stands names xs s → Run file q (Err x) → ⊥
not_both f g names xs s q x same h d = stuck_not_ok (run_so f h.taken) (subst (λ (l : List Token). Run file l (Err x)) (sym same) (run_so g d))

pub same_fault : (f g : NameId → NameId) (s q : List Token) (x y : ParseFault) → retokens f s ≡ retokens g q → Run file s (Err x)
    → Run file q (Err y) → x ≡ y
same_fault f g s q x y same h d = same_err (Err x) x y refl (one_outcome f g s q (Err x) (Err y) same (run_so f h) (run_so g d))
