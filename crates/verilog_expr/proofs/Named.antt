-- The names of an expression are names of its tokens.
use Rattle.std.proofs.Common.{◌<◌, ℕ, List, flat_map, All, subst}
use Rattle.std.proofs.lemmas.List.Elements.{All-head, All-tail}
use Rattle.verilog_lex.specs.declared.token.Token.{Token}
use Rattle.verilog_lex.specs.declared.kind.Kind.{Kind}
use Rattle.verilog_ast.specs.Names.{names_of_expression, names_of_reference, names_of_range}
use Rattle.verilog_ast.proofs.Within.{IsWithin, no_name, one_more, one_name, ◌⊕◌, are}
use Rattle.verilog_ast.proofs.Named as n
use Rattle.verilog_expr.specs.Tokens.{Takes, taken, number_of}
use Rattle.verilog_expr.specs.Spells.{Phrase, Spells, AnExpression, AChain, AnOperand, ASelect, APart, ABraced, Behind, Others, ARange, plain, conditional, one, binary, number, unary, read, bracketed, braced, concatenation, replication, behind, no_other, another, whole, select, bit, part, upward, downward, range}

-- the names of these tokens are below the bound
pub record AreWithin (n : ℕ) (s : List Token) : Type 0 where
  pub all : All (λ (t : Token). t.text.0 < n) s

-- so are the one that is taken and what is left
pub took : {n : ℕ} {kind : Kind} {s r : List Token} {t : Token} → Takes kind s r t → AreWithin n s → (t.text.0 < n) × AreWithin n r
took {n} {r = r} (taken {token = t} cut is) w =
    let cut = (subst (AreWithin n) cut w).all in
    (All-head (λ (t : Token). t.text.0 < n) t r cut, record { all = All-tail (λ (t : Token). t.text.0 < n) t r cut })

-- The names of a phrase are below the bound, where those of what stands before it are.
abbrev pub IsNamed : ℕ → Phrase → Type 0
IsNamed n (AnExpression x) = IsWithin n (names_of_expression x)
IsNamed n (AChain p x) = IsWithin n (names_of_expression x)
IsNamed n (AnOperand x) = IsWithin n (names_of_expression x)
IsNamed n (ASelect name x) = name.name.0 < n → IsWithin n (names_of_reference x)
IsNamed n (APart name x y) = name.name.0 < n → IsWithin n (names_of_expression x) → IsWithin n (names_of_reference y)
IsNamed n (ABraced at x y) = IsWithin n (names_of_expression x) → IsWithin n (names_of_expression y)
IsNamed n (Behind x xs) = IsWithin n (names_of_expression x) → IsWithin n (flat_map names_of_expression xs)
IsNamed n (Others xs) = IsWithin n (flat_map names_of_expression xs)
IsNamed n (ARange x) = IsWithin n (names_of_range x)

pub named : {n : ℕ} {p : Phrase} {s r : List Token} → Spells p s r → AreWithin n s → IsNamed n p × AreWithin n r
named (plain h free last) w = named h w
named (conditional {c = x} {x = y} {y = z} h t i u j) w =
    let a = named h w in let b = took t a.1 in let c = named i b.1 in let d = took u c.1 in let e = named j d.1 in
    (are (n.conditional_names x y z) (a.0 ⊕ c.0 ⊕ e.0), e.1)
named (one h) w = named h w
named (binary {op = op} {x = x} {y = y} le h has t i) w =
    let a = named h w in let b = took t a.1 in let c = named i b.1 in
    (are (n.binary_names op x y) (a.0 ⊕ c.0), c.1)
named (number {t = t} h) w = let a = took h w in (are (n.number_names t.at (number_of t)) no_name, a.1)
named (unary {op = op} {x = x} {t = t} has h i) w = let a = took h w in let b = named i a.1 in (are (n.unary_names t.at op x) b.0, b.1)
named (read {x = x} t h) w = let a = took t w in let b = named h a.1 in (are (n.read_names x) (b.0 a.0), b.1)
named (bracketed {x = x} {t = t} h i u) w = let a = took h w in let b = named i a.1 in let c = took u b.1 in (are (n.bracketed_names t.at x) b.0, c.1)
named (braced t h i) w = let a = took t w in let b = named h a.1 in let c = named i b.1 in (c.0 b.0, c.1)
named (concatenation {at = at} {all = all} free h t) w = let a = named h w in let b = took t a.1 in (λ x. are (n.concatenation_names at all) (a.0 x), b.1)
named (replication {at = at} {x = x} {all = all} t h i u v) w =
    let a = took t w in let b = named h a.1 in let c = named i b.1 in let d = took u c.1 in let e = took v d.1 in
    (λ y. are (n.replication_names at x all) (y ⊕ c.0 b.0), e.1)
named (behind h) w = let a = named h w in (λ x. x ⊕ a.0, a.1)
named (no_other free) w = (no_name, w)
named (another t h i) w = let a = took t w in let b = named h a.1 in let c = named i b.1 in (b.0 ⊕ c.0, c.1)
named (whole {n = name} free dot) w = (λ i. are (n.whole_names name) (one_name i), w)
named (select t h i u dot) w = let a = took t w in let b = named h a.1 in let c = named i b.1 in let d = took u c.1 in (λ j. c.0 j b.0, d.1)
named (bit {n = name} {x = x} a b c) w = (λ i h. are (n.bit_names name x) (one_more i h), w)
named (part {n = name} {x = x} {y = y} t h) w = let a = took t w in let b = named h a.1 in (λ i k. are (n.part_names name x y) (one_more i (k ⊕ b.0)), b.1)
named (upward {n = name} {x = x} {y = y} t h) w = let a = took t w in let b = named h a.1 in (λ i k. are (n.upward_names name x y) (one_more i (k ⊕ b.0)), b.1)
named (downward {n = name} {x = x} {y = y} t h) w = let a = took t w in let b = named h a.1 in (λ i k. are (n.downward_names name x y) (one_more i (k ⊕ b.0)), b.1)
named (range t h u i v) w =
    let a = took t w in let b = named h a.1 in let c = took u b.1 in let d = named i c.1 in let e = took v d.1 in
    (b.0 ⊕ d.0, e.1)
