-- The names of a statement are names of its tokens.
use Rattle.std.proofs.Common.{ℕ, List, flat_map}
use Rattle.verilog_lex.specs.declared.token.Token.{Token}
use Rattle.verilog_ast.specs.Names.{names_of_expression, names_of_target, names_of_label, names_of_optional_label, names_of_statement, names_of_arm}
use Rattle.verilog_ast.proofs.Within.{IsWithin, no_name, one_name, ◌⊕◌, are}
use Rattle.verilog_ast.proofs.Named as n
use Rattle.verilog_expr.proofs.Named.{AreWithin, took}
use Rattle.verilog_expr.proofs.Named as expressions
use Rattle.verilog_stmt.specs.Statements as p

-- The names of a phrase are below the bound, where those of what stands before it are.
abbrev pub IsNamed : ℕ → p.Phrase → Type 0
IsNamed n (p.ATarget x) = IsWithin n (names_of_target x)
IsNamed n (p.Braces xs) = IsWithin n (flat_map names_of_target xs)
IsNamed n (p.TargetsBehind x xs) = IsWithin n (names_of_target x) → IsWithin n (flat_map names_of_target xs)
IsNamed n (p.OtherTargets xs) = IsWithin n (flat_map names_of_target xs)
IsNamed n (p.AStatement sign x) = IsWithin n (names_of_statement x)
IsNamed n (p.Statements sign xs) = IsWithin n (flat_map names_of_statement xs)
IsNamed n (p.AnIf sign at x) = IsWithin n (names_of_statement x)
IsNamed n (p.Alternative sign at x y z) = IsWithin n (names_of_expression x) → IsWithin n (names_of_statement y) → IsWithin n (names_of_statement z)
IsNamed n (p.ACase sign which at x) = IsWithin n (names_of_statement x)
IsNamed n (p.AnArm sign which x) = IsWithin n (names_of_arm x)
IsNamed n (p.ArmsBehind sign which x xs) = IsWithin n (names_of_arm x) → IsWithin n (flat_map names_of_arm xs)
IsNamed n (p.OtherArms sign which xs) = IsWithin n (flat_map names_of_arm xs)
IsNamed n p.OptionalColon = Unit {0}
IsNamed n (p.ALabel which x) = IsWithin n (names_of_label x)
IsNamed n (p.LabelsBehind which x xs) = IsWithin n (names_of_label x) → IsWithin n (flat_map names_of_label xs)
IsNamed n (p.OtherLabels which xs) = IsWithin n (flat_map names_of_label xs)
IsNamed n (p.OptionalLabel x) = IsWithin n (names_of_optional_label x)
IsNamed n (p.AnAssignment sign x y) = IsWithin n (names_of_target x) → IsWithin n (names_of_statement y)
IsNamed n (p.ASign sign) = Unit {0}

pub statement : {n : ℕ} {q : p.Phrase} {s r : List Token} → p.Spells q s r → AreWithin n s → IsNamed n q × AreWithin n r
statement (p.target_name {x = x} t h) w = let a = took t w in let b = expressions.named h a.1 in (are (n.target_name_names x) (b.0 a.0), b.1)
statement (p.target_braces {xs = xs} {t = t} h i) w = let a = took h w in let b = statement i a.1 in (are (n.target_braces_names t.at xs) b.0, b.1)
statement (p.braces h i t) w = let a = statement h w in let b = statement i a.1 in let c = took t b.1 in (b.0 a.0, c.1)
statement (p.targets_behind h) w = let a = statement h w in (λ x. x ⊕ a.0, a.1)
statement (p.no_target free) w = (no_name, w)
statement (p.another_target t h i) w = let a = took t w in let b = statement h a.1 in let c = statement i b.1 in (b.0 ⊕ c.0, c.1)
statement (p.empty {t = t} h) w = let a = took h w in (are (n.empty_names t.at) no_name, a.1)
statement (p.block {l = l} {xs = xs} {t = t} h i j u) w =
    let a = took h w in let b = statement i a.1 in let c = statement j b.1 in let d = took u c.1 in (are (n.block_names t.at l xs) (b.0 ⊕ c.0), d.1)
statement (p.if_ t h) w = let a = took t w in let b = statement h a.1 in (b.0, b.1)
statement (p.case_ t h) w = let a = took t w in let b = statement h a.1 in (b.0, b.1)
statement (p.casez_ t h) w = let a = took t w in let b = statement h a.1 in (b.0, b.1)
statement (p.assign_name {y = y} t h i) w =
    let a = took t w in let b = expressions.named h a.1 in let c = statement i b.1 in (c.0 (are (n.target_name_names y) (b.0 a.0)), c.1)
statement (p.assign_braces {ys = ys} {t = t} h i j) w =
    let a = took h w in let b = statement i a.1 in let c = statement j b.1 in (c.0 (are (n.target_braces_names t.at ys) b.0), c.1)
statement (p.no_statement free) w = (no_name, w)
statement (p.another_statement go h i) w = let a = statement h w in let b = statement i a.1 in (a.0 ⊕ b.0, b.1)
statement (p.branch t h u i j) w =
    let a = took t w in let b = expressions.named h a.1 in let c = took u b.1 in let d = statement i c.1 in let e = statement j d.1 in
    (e.0 b.0 d.0, e.1)
statement (p.if_alone {at = at} {x = x} {y = y} free) w = (λ h i. are (n.if_names at x y) (h ⊕ i), w)
statement (p.if_else {at = at} {x = x} {y = y} {z = z} t h) w =
    let a = took t w in let b = statement h a.1 in (λ i j. are (n.if_else_names at x y z) (i ⊕ j ⊕ b.0), b.1)
statement (p.choice {which = which} {at = at} {x = x} {ys = ys} t h u i j v) w =
    let a = took t w in let b = expressions.named h a.1 in let c = took u b.1 in let d = statement i c.1 in let e = statement j d.1 in let f = took v e.1 in
    (are (n.case_names at which x ys) (b.0 ⊕ e.0 d.0), f.1)
statement (p.arms_behind h) w = let a = statement h w in (λ x. x ⊕ a.0, a.1)
statement (p.no_arm free) w = (no_name, w)
statement (p.another_arm go h i) w = let a = statement h w in let b = statement i a.1 in (a.0 ⊕ b.0, b.1)
statement (p.default {x = x} {t = t} h i j) w =
    let a = took h w in let b = statement i a.1 in let c = statement j b.1 in (are (n.default_names t.at x) c.0, c.1)
statement (p.matching {ls = ls} {x = x} free h i t j) w =
    let a = statement h w in let b = statement i a.1 in let c = took t b.1 in let d = statement j c.1 in
    (are (n.match_names ls x) (b.0 a.0 ⊕ d.0), d.1)
statement (p.colon t) w = let a = took t w in (tt, a.1)
statement (p.no_colon free) w = (tt, w)
statement (p.case_label h) w = let a = expressions.named h w in (a.0, a.1)
statement (p.casez_value free h) w = let a = expressions.named h w in (a.0, a.1)
statement (p.casez_pattern h) w = let a = took h w in (no_name, a.1)
statement (p.labels_behind h) w = let a = statement h w in (λ x. x ⊕ a.0, a.1)
statement (p.no_other_label free) w = (no_name, w)
statement (p.another_label t h i) w = let a = took t w in let b = statement h a.1 in let c = statement i b.1 in (b.0 ⊕ c.0, c.1)
statement (p.no_label free) w = (no_name, w)
statement (p.a_label t u) w = let a = took t w in let b = took u a.1 in (one_name b.0, b.1)
statement (p.assigns {x = x} {y = y} h i t) w =
    let a = statement h w in let b = expressions.named i a.1 in let c = took t b.1 in (λ j. are (n.assign_names x y) (j ⊕ b.0), c.1)
statement (p.blocking t) w = let a = took t w in (tt, a.1)
statement (p.nonblocking t) w = let a = took t w in (tt, a.1)
