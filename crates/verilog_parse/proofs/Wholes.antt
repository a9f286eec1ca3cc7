-- Whole texts: what is read of them, and that what the grammar has is never stuck.
use Rattle.std.proofs.Common.{◌≡◌, ◌-◌, ◌+◌, ℕ, List, [], ◌∷◌, ◌++◌, length, take, All, Ok, Err, refl, sym, ap, subst, ◌∙◌, arith}
use Rattle.std.proofs.lemmas.List.{length-append, get_or-append-add}
use Rattle.ls_text.specs.declared.fault.Fault.{Fault}
use Rattle.verilog_lex.specs.declared.token.Token.{Token}
use Rattle.verilog_lex.specs.declared.kind.Kind.TheVariants as k
use Rattle.verilog_lex.specs.Ends.{EndsOnce}
use Rattle.verilog_ast.specs.declared.module.Module.{Module}
use Rattle.verilog_expr.specs.declared.fault.ParseFault.{ParseFault}
use Rattle.verilog_expr.specs.Tokens.{Takes, taken}
use Rattle.verilog_expr.specs.Grammar as g
use Rattle.verilog_expr.specs.Grammar.{T, N}
use Rattle.verilog_expr.specs.Machine.{Run, ends}
use Rattle.verilog_expr.specs.Shown.{IsShownAs}
use Rattle.verilog_expr.proofs.Runs.{then}
use Rattle.verilog_expr.proofs.Entries.{modules_skip}
use Rattle.verilog_expr.proofs.Complete.{Gets, gets_end, gets_token, gets_skip, ◌⊳◌}
use Rattle.verilog_expr.proofs.Refusals.{heavy_alone}
use Rattle.verilog_expr.proofs.Suffixes.{suffix, ends_last, taken_part}
use Rattle.verilog_parse.specs.Modules as m
use Rattle.verilog_spelling.specs.Spellings.{spelling}
use Rattle.verilog_parse.specs.Files.{file, IsSpelledAs, SpellsAll, no_module, another_module, Stands, IsSpelled}
use Rattle.verilog_decl.proofs.Complete.{seen}
use Rattle.verilog_parse.proofs.Complete.{module_}

-- ---- one module

pub spelled_so : (names : List (List ℕ)) (x : Module) (s r start rest own : List Token) → start ≡ s → rest ≡ r → own ≡ take (length start - length rest) start → x.spelling ≡ spelling names own
    → Run (N g.AModule 0 ∷ []) s (Ok r) → m.Spells (m.AModule x.body) s r → IsSpelledAs names x s r
spelled_so names x s r start rest own is-s is-r is-own text run tree =
    let w = suffix run in
    let here : own ≡ w.0 = is-own ∙ ap (λ (l : List Token). take (length l - length rest) l) is-s ∙ ap (λ (l : List Token). take (length s - length l) s) is-r
    ∙ ap (λ (l : List Token). take (length l - length r) l) w.1 ∙ taken_part w.0 r in
    record { tree = tree; own = w.0; cut = w.1; text = text ∙ ap (spelling names) here }

pub named_after : (P : Token → Type 0) (s r : List Token) → Run (N g.AModule 0 ∷ []) s (Ok r) → All P s → All P r
named_after P s r run all =
    let w = suffix run in λ i d below.
    subst P (get_or-append-add w.0 r i d) (subst (λ (l : List Token). All P l) w.1 all (length w.0 + i) d (omega (arith, length-append w.0 r)))

-- ---- a whole text

nothing_left : (s own p r : List Token) (t : Token) → EndsOnce s → s ≡ own ++ p → Takes k.End p r t → r ≡ []
nothing_left s own p r _ once cut (taken {token = u} is kind) = ends_last own u r (subst EndsOnce (cut ∙ ap (λ (l : List Token). own ++ l) is) once) kind

pub stands_so : (names : List (List ℕ)) (xs : List Module) (s p q r : List Token) (t : Token) → p ≡ s → EndsOnce s → SpellsAll names xs p q → Run (N g.Modules 0 ∷ []) p (Ok q) → Takes k.End q r t
    → Run (T k.End 0 ∷ []) q (Ok r) → Stands names xs s
stands_so names xs s p q r t is once tree run takes end =
    let w = suffix run in
    let none = nothing_left s w.0 q r t once (sym is ∙ w.1) takes in
    record {
      last = q;
      end = t;
      tree = subst (λ (l : List Token). SpellsAll names xs l q) is tree;
      ends = subst (λ (l : List Token). Takes k.End q l t) none takes;
      taken = subst (λ (l : List Token). Run file l (Ok [])) is (subst (λ (l : List Token). Run file p (Ok l)) none (then run (then end ends)));
    }

-- ---- faults

gets_all : {names : List (List ℕ)} {xs : List Module} {s r : List Token} → SpellsAll names xs s r → Gets (N g.Modules 0 ∷ []) s r
gets_all (no_module free) = gets_skip (modules_skip 0 _ free) gets_end
gets_all (another_module is x xs) = seen is refl (module_ x.tree 0 ⊳ gets_all xs ⊳ gets_end)

pub spelled_only : (s : List Token) (f : ParseFault) (fault : Fault) → IsSpelled s → Run file s (Err f) → IsShownAs s f fault → fault.code ≡ 16
spelled_only s f fault spelled run shown = heavy_alone (gets_all spelled.tree ⊳ gets_token spelled.ends ⊳ gets_end) run shown
