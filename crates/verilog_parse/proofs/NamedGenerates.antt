-- The names of an item of a generate block are names of its tokens.
use Rattle.std.proofs.Common.{ℕ, List, ◌∷◌, Some, None, flat_map}
use Rattle.verilog_lex.specs.declared.token.Token.{Token}
use Rattle.verilog_ast.specs.Names.{names_of_loop, names_of_generate_item, names_of_branch}
use Rattle.verilog_ast.proofs.Within.{IsWithin, no_name, one_more, ◌⊕◌, are}
use Rattle.verilog_ast.proofs.Named as n
use Rattle.verilog_expr.proofs.Named.{AreWithin, took}
use Rattle.verilog_expr.proofs.Named as expressions
use Rattle.verilog_parse.specs.Generates as p
use Rattle.verilog_decl.proofs.NamedDeclarations.{declaration}
use Rattle.verilog_parse.proofs.NamedItems.{item}

-- The names of a phrase are below the bound, where those of what stands before it are.
abbrev pub IsNamed : ℕ → p.Phrase → Type 0
IsNamed n (p.GenerateItems xs) = IsWithin n (flat_map names_of_generate_item xs)
IsNamed n (p.AGenerateItem x) = IsWithin n (names_of_generate_item x)
IsNamed n (p.ALoop x) = IsWithin n (names_of_generate_item x)
IsNamed n (p.ALoopHead x) = IsWithin n (names_of_loop x)
IsNamed n (p.ABlock at label xs) = IsWithin n (label.name ∷ flat_map names_of_generate_item xs)
IsNamed n (p.ABranch x) = IsWithin n (names_of_branch x)
IsNamed n (p.AnOtherwise x) = IsWithin n (names_of_branch x)
IsNamed n (p.BranchesBehind x xs) = IsWithin n (names_of_branch x) → IsWithin n (flat_map names_of_branch xs)
IsNamed n (p.OtherBranches xs) = IsWithin n (flat_map names_of_branch xs)

pub generate : {n : ℕ} {q : p.Phrase} {s r : List Token} → p.Spells q s r → AreWithin n s → IsNamed n q × AreWithin n r
generate (p.no_item free) w = (no_name, w)
generate (p.another_item go h i) w = let a = generate h w in let b = generate i a.1 in (a.0 ⊕ b.0, b.1)
generate (p.loop_item is h) w = let a = generate h w in (a.0, a.1)
generate (p.if_item {xs = xs} is h i) w = let a = generate h w in let b = generate i a.1 in (are (n.branches_names xs) (b.0 a.0), b.1)
generate (p.plain_item {x = x} free clear h) w = let a = item h w in (are (n.plain_names x) a.0, a.1)
generate (p.generate_loop {x = x} {y = y} {ys = ys} {t = t} h u i v j) w =
    let a = took h w in let b = took u a.1 in let c = generate i b.1 in let d = took v c.1 in let e = generate j d.1 in
    (are (n.for_names t.at x y ys) (c.0 ⊕ e.0), e.1)
generate (p.loop_head h t i u j) w =
    let a = declaration h w in let b = took t a.1 in let c = expressions.named i b.1 in let d = took u c.1 in let e = declaration j d.1 in (a.0 ⊕ c.0 ⊕ e.0, e.1)
generate (p.block t u v h z) w =
    let a = took t w in let b = took u a.1 in let c = took v b.1 in let d = generate h c.1 in let e = took z d.1 in (one_more c.0 d.0, e.1)
generate (p.branch {x = x} {y = y} {ys = ys} {t = t} h u i v j) w =
    let a = took h w in let b = took u a.1 in let c = expressions.named i b.1 in let d = took v c.1 in let e = generate j d.1 in
    (are (n.branch_names (record { at = t.at; condition = Some x; label = y; items = ys })) (c.0 ⊕ e.0), e.1)
generate (p.otherwise {at = at} {y = y} {ys = ys} h) w =
    let a = generate h w in (are (n.branch_names (record { at = at; condition = None; label = y; items = ys })) a.0, a.1)
generate (p.branches_behind h) w = let a = generate h w in (λ x. x ⊕ a.0, a.1)
generate (p.no_branch free) w = (no_name, w)
generate (p.another_branch t is h i) w = let a = took t w in let b = generate h a.1 in let c = generate i b.1 in (b.0 ⊕ c.0, c.1)
generate (p.last_branch t free h) w = let a = took t w in let b = generate h a.1 in (b.0 ⊕ no_name, b.1)
