-- An expression that stands for tokens stands under other names for the tokens under these.
use Rattle.std.proofs.Common.{◌≡◌, ◌≢◌, List, map, None, sym, subst}
use Rattle.ls_text.specs.declared.name_id.NameId.{NameId}
use Rattle.verilog_lex.specs.declared.token.Token.{Token}
use Rattle.verilog_lex.specs.declared.kind.Kind.{Kind}
use Rattle.verilog_lex.specs.declared.kind.Kind.TheVariants as k
use Rattle.verilog_ast.specs.declared.expression.Expr.{Expr}
use Rattle.verilog_ast.specs.declared.expression.Reference.{Reference}
use Rattle.verilog_ast.specs.Renamed.{renamed_identifier, renamed_expression, renamed_reference, renamed_range}
use Rattle.verilog_expr.specs.Tokens.{binary_operator, number_of}
use Rattle.verilog_expr.specs.Renamed.{retokens}
use Rattle.verilog_expr.specs.Spells.{Phrase, Spells, AnExpression, AChain, AnOperand, ASelect, APart, ABraced, Behind, Others, ARange, plain, conditional, one, binary, number, unary, read, bracketed, braced, concatenation, replication, behind, no_other, another, whole, select, bit, part, upward, downward, range}
use Rattle.verilog_expr.proofs.RenamedTokens.{at_next, takes_so}
use Rattle.verilog_expr.proofs.RenamedTrees.{number_so, read_so, unary_so, binary_so, conditional_so, concatenation_so, replication_so, bracketed_so, whole_so, bit_so, part_so, upward_so, downward_so}

abbrev pub renamed_phrase : (NameId → NameId) → Phrase → Phrase
renamed_phrase f (AnExpression x) = AnExpression (renamed_expression f x)
renamed_phrase f (AChain x y) = AChain x (renamed_expression f y)
renamed_phrase f (AnOperand x) = AnOperand (renamed_expression f x)
renamed_phrase f (ASelect x y) = ASelect (renamed_identifier f x) (renamed_reference f y)
renamed_phrase f (APart x y z) = APart (renamed_identifier f x) (renamed_expression f y) (renamed_reference f z)
renamed_phrase f (ABraced x y z) = ABraced x (renamed_expression f y) (renamed_expression f z)
renamed_phrase f (Behind x y) = Behind (renamed_expression f x) (map (renamed_expression f) y)
renamed_phrase f (Others x) = Others (map (renamed_expression f) x)
renamed_phrase f (ARange x) = ARange (renamed_range f x)

pub spells_so : (f : NameId → NameId) {phrase : Phrase} {s r : List Token} → Spells phrase s r
    → Spells (renamed_phrase f phrase) (retokens f s) (retokens f r)
spells_so f (plain {r = r} h i j) =
    plain (spells_so f h) (at_next f r (λ (kind : Kind). binary_operator kind ≡ None) i) (at_next f r (λ (kind : Kind). kind ≢ k.Question) j)
spells_so f (conditional {c = c} {x = x} {y = y} {s = s} {r = r} h i j o q) =
    subst (λ (z : Expr). Spells (AnExpression z) (retokens f s) (retokens f r)) (sym (conditional_so f c x y))
    (conditional (spells_so f h) (takes_so f i) (spells_so f j) (takes_so f o) (spells_so f q))
spells_so f (one h) = one (spells_so f h)
spells_so f (binary {p = p} {op = op} {x = x} {y = y} {s = s} {r = r} h i j o q) =
    subst (λ (z : Expr). Spells (AChain p z) (retokens f s) (retokens f r)) (sym (binary_so f op x y))
    (binary h (spells_so f i) j (takes_so f o) (spells_so f q))
spells_so f (number {s = s} {r = r} {t = t} h) =
    subst (λ (z : Expr). Spells (AnOperand z) (retokens f s) (retokens f r)) (sym (number_so f t.at (number_of t)))
    (number (takes_so f h))
spells_so f (unary {op = op} {x = x} {s = s} {r = r} {t = t} h i j) =
    subst (λ (z : Expr). Spells (AnOperand z) (retokens f s) (retokens f r)) (sym (unary_so f t.at op x))
    (unary h (takes_so f i) (spells_so f j))
spells_so f (read {x = x} {s = s} {r = r} h i) =
    subst (λ (z : Expr). Spells (AnOperand z) (retokens f s) (retokens f r)) (sym (read_so f x))
    (read (takes_so f h) (spells_so f i))
spells_so f (bracketed {x = x} {s = s} {r = r} {t = t} h i j) =
    subst (λ (z : Expr). Spells (AnOperand z) (retokens f s) (retokens f r)) (sym (bracketed_so f t.at x))
    (bracketed (takes_so f h) (spells_so f i) (takes_so f j))
spells_so f (braced h i j) = braced (takes_so f h) (spells_so f i) (spells_so f j)
spells_so f (concatenation {at = at} {x = x} {all = all} {s = s} {r = r} h i j) =
    subst (λ (z : Expr). Spells (ABraced at (renamed_expression f x) z) (retokens f s) (retokens f r)) (sym (concatenation_so f at all))
    (concatenation (at_next f s (λ (kind : Kind). kind ≢ k.LeftBrace) h) (spells_so f i) (takes_so f j))
spells_so f (replication {at = at} {x = x} {all = all} {s = s} {r = r} h i j o q) =
    subst (λ (z : Expr). Spells (ABraced at (renamed_expression f x) z) (retokens f s) (retokens f r)) (sym (replication_so f at x all))
    (replication (takes_so f h) (spells_so f i) (spells_so f j) (takes_so f o) (takes_so f q))
spells_so f (behind h) = behind (spells_so f h)
spells_so f (no_other {s = s} h) = no_other (at_next f s (λ (kind : Kind). kind ≢ k.Comma) h)
spells_so f (another h i j) = another (takes_so f h) (spells_so f i) (spells_so f j)
spells_so f (whole {n = n} {s = s} h i) =
    subst (λ (z : Reference). Spells (ASelect (renamed_identifier f n) z) (retokens f s) (retokens f s)) (sym (whole_so f n))
    (whole (at_next f s (λ (kind : Kind). kind ≢ k.LeftBracket) h) (at_next f s (λ (kind : Kind). kind ≢ k.Dot) i))
spells_so f (select {r = r} h i j o q) =
    select (takes_so f h) (spells_so f i) (spells_so f j) (takes_so f o) (at_next f r (λ (kind : Kind). kind ≢ k.Dot) q)
spells_so f (bit {n = n} {x = x} {s = s} h i j) =
    subst (λ (z : Reference). Spells (APart (renamed_identifier f n) (renamed_expression f x) z) (retokens f s) (retokens f s)) (sym (bit_so f n x))
    (bit (at_next f s (λ (kind : Kind). kind ≢ k.Colon) h) (at_next f s (λ (kind : Kind). kind ≢ k.PlusColon) i)
    (at_next f s (λ (kind : Kind). kind ≢ k.MinusColon) j))
spells_so f (part {n = n} {x = x} {y = y} {s = s} {r = r} h i) =
    subst (λ (z : Reference). Spells (APart (renamed_identifier f n) (renamed_expression f x) z) (retokens f s) (retokens f r))
    (sym (part_so f n x y))
    (part (takes_so f h) (spells_so f i))
spells_so f (upward {n = n} {x = x} {y = y} {s = s} {r = r} h i) =
    subst (λ (z : Reference). Spells (APart (renamed_identifier f n) (renamed_expression f x) z) (retokens f s) (retokens f r))
    (sym (upward_so f n x y))
    (upward (takes_so f h) (spells_so f i))
spells_so f (downward {n = n} {x = x} {y = y} {s = s} {r = r} h i) =
    subst (λ (z : Reference). Spells (APart (renamed_identifier f n) (renamed_expression f x) z) (retokens f s) (retokens f r))
    (sym (downward_so f n x y))
    (downward (takes_so f h) (spells_so f i))
spells_so f (range h i j o q) = range (takes_so f h) (spells_so f i) (takes_so f j) (spells_so f o) (takes_so f q)
