-- The names of a text's modules are names of its tokens.
use Rattle.std.proofs.Common.{◌<◌, ℕ, List, flat_map, All, subst}
use Rattle.ls_text.specs.declared.name_id.NameId.{NameId}
use Rattle.verilog_lex.specs.declared.token.Token.{Token}
use Rattle.verilog_ast.specs.declared.module.Module.{Module}
use Rattle.verilog_ast.specs.Names.{names_of_item, names_of_body, names_of_modules}
use Rattle.verilog_ast.specs.NamesWithin.{names_in_modules}
use Rattle.verilog_ast.proofs.ViewedItemNames.{modules_named}
use Rattle.verilog_ast.proofs.Within.{IsWithin, no_name, one_more, ◌⊕◌}
use Rattle.verilog_expr.proofs.Named.{AreWithin, took}
use Rattle.verilog_parse.specs.Modules as p
use Rattle.verilog_parse.specs.Files.{SpellsAll, no_module, another_module, Stands}
use Rattle.verilog_decl.proofs.NamedDeclarations.{declaration}
use Rattle.verilog_decl.proofs.NamedHeaders.{header}
use Rattle.verilog_parse.proofs.NamedGenerates.{generate}

-- The names of a phrase are below the bound, where those of what stands before it are.
abbrev pub IsNamed : ℕ → p.Phrase → Type 0
IsNamed n (p.AModule x) = IsWithin n (names_of_body x)
IsNamed n (p.Items xs) = IsWithin n (flat_map names_of_item xs)
IsNamed n (p.AnItem x) = IsWithin n (names_of_item x)

pub body : {n : ℕ} {q : p.Phrase} {s r : List Token} → p.Spells q s r → AreWithin n s → IsNamed n q × AreWithin n r
body (p.module_ t u h i v) w =
    let a = took t w in let b = took u a.1 in let c = header h b.1 in let d = body i c.1 in let e = took v d.1 in
    (one_more b.0 (c.0.0 ⊕ c.0.1 ⊕ d.0), e.1)
body (p.no_item free) w = (no_name, w)
body (p.another_item go h i) w = let a = body h w in let b = body i a.1 in (a.0 ⊕ b.0, b.1)
body (p.input_item t h i j u) w =
    let a = took t w in let b = declaration h a.1 in let c = declaration i b.1 in let d = declaration j c.1 in let e = took u d.1 in (c.0 ⊕ d.0, e.1)
body (p.output_item t h i j u) w =
    let a = took t w in let b = declaration h a.1 in let c = declaration i b.1 in let d = declaration j c.1 in let e = took u d.1 in (c.0 ⊕ d.0, e.1)
body (p.parameter_item t h i u) w = let a = took t w in let b = declaration h a.1 in let c = declaration i b.1 in let d = took u c.1 in (b.0 ⊕ c.0, d.1)
body (p.region t h u) w = let a = took t w in let b = generate h a.1 in let c = took u b.1 in (b.0, c.1)
body (p.other_item free clear bare plain h) w = let a = generate h w in (a.0, a.1)

pub modules : {n : ℕ} {names : List (List ℕ)} {xs : List Module} {s r : List Token} → SpellsAll names xs s r → AreWithin n s
    → IsWithin n (names_of_modules xs) × AreWithin n r
modules (no_module free) w = (no_name, w)
modules (another_module is x xs) w = let a = body x.tree w in let b = modules xs a.1 in (a.0 ⊕ b.0, b.1)

-- the modules of a whole text
pub all_named : (n : ℕ) (names : List (List ℕ)) (xs : List Module) (s : List Token) → Stands names xs s → All (λ (t : Token). t.text.0 < n) s
    → All (λ (id : NameId). id.0 < n) (names_in_modules xs)
all_named n names xs s h w = subst (All (λ (id : NameId). id.0 < n)) (modules_named xs) (modules {n = n} h.tree (record { all = w })).0.all
