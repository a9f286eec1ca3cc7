-- An expression that stands for tokens stands without places for the tokens without theirs.
use Rattle.std.proofs.Common.{◌≡◌, ◌≢◌, List, map, None, sym, subst}
use Rattle.verilog_lex.specs.declared.token.Token.{Token}
use Rattle.verilog_lex.specs.declared.kind.Kind.{Kind}
use Rattle.verilog_lex.specs.declared.kind.Kind.TheVariants as k
use Rattle.verilog_ast.specs.Places.{no_place}
use Rattle.verilog_ast.specs.declared.expression.Expr.{Expr}
use Rattle.verilog_ast.specs.declared.expression.Reference.{Reference}
use Rattle.version_swap.specs.Unplaced.{unplaced_name}
use Rattle.version_swap.proofs.BareForms.{bare_expression, bare_reference, bare_range, bare_tokens}
use Rattle.verilog_expr.specs.Tokens.{binary_operator, number_of}
use Rattle.verilog_expr.specs.Spells.{Phrase, Spells, AnExpression, AChain, AnOperand, ASelect, APart, ABraced, Behind, Others, ARange, plain, conditional, one, binary, number, unary, read, bracketed, braced, concatenation, replication, behind, no_other, another, whole, select, bit, part, upward, downward, range}
use Rattle.version_swap.proofs.BareTokens.{at_next, takes_so}
use Rattle.version_swap.proofs.BareTrees.{number_so, read_so, unary_so, binary_so, conditional_so, concatenation_so, replication_so, bracketed_so, whole_so, bit_so, part_so, upward_so, downward_so}

abbrev pub bare_phrase : Phrase → Phrase
bare_phrase (AnExpression x) = AnExpression (bare_expression x)
bare_phrase (AChain x y) = AChain x (bare_expression y)
bare_phrase (AnOperand x) = AnOperand (bare_expression x)
bare_phrase (ASelect x y) = ASelect (unplaced_name x) (bare_reference y)
bare_phrase (APart x y z) = APart (unplaced_name x) (bare_expression y) (bare_reference z)
bare_phrase (ABraced x y z) = ABraced no_place (bare_expression y) (bare_expression z)
bare_phrase (Behind x y) = Behind (bare_expression x) (map bare_expression y)
bare_phrase (Others x) = Others (map bare_expression x)
bare_phrase (ARange x) = ARange (bare_range x)

pub spells_so : {phrase : Phrase} {s r : List Token} → Spells phrase s r
    → Spells (bare_phrase phrase) (bare_tokens s) (bare_tokens r)
spells_so (plain {r = r} h i j) =
    plain (spells_so h) (at_next r (λ (kind : Kind). binary_operator kind ≡ None) i) (at_next r (λ (kind : Kind). kind ≢ k.Question) j)
spells_so (conditional {c = c} {x = x} {y = y} {s = s} {r = r} h i j o q) =
    subst (λ (z : Expr). Spells (AnExpression z) (bare_tokens s) (bare_tokens r)) (sym (conditional_so c x y))
    (conditional (spells_so h) (takes_so i) (spells_so j) (takes_so o) (spells_so q))
spells_so (one h) = one (spells_so h)
spells_so (binary {p = p} {op = op} {x = x} {y = y} {s = s} {r = r} h i j o q) =
    subst (λ (z : Expr). Spells (AChain p z) (bare_tokens s) (bare_tokens r)) (sym (binary_so op x y))
    (binary h (spells_so i) j (takes_so o) (spells_so q))
spells_so (number {s = s} {r = r} {t = t} h) =
    subst (λ (z : Expr). Spells (AnOperand z) (bare_tokens s) (bare_tokens r)) (sym (number_so t.at (number_of t)))
    (number (takes_so h))
spells_so (unary {op = op} {x = x} {s = s} {r = r} {t = t} h i j) =
    subst (λ (z : Expr). Spells (AnOperand z) (bare_tokens s) (bare_tokens r)) (sym (unary_so t.at op x))
    (unary h (takes_so i) (spells_so j))
spells_so (read {x = x} {s = s} {r = r} h i) =
    subst (λ (z : Expr). Spells (AnOperand z) (bare_tokens s) (bare_tokens r)) (sym (read_so x))
    (read (takes_so h) (spells_so i))
spells_so (bracketed {x = x} {s = s} {r = r} {t = t} h i j) =
    subst (λ (z : Expr). Spells (AnOperand z) (bare_tokens s) (bare_tokens r)) (sym (bracketed_so t.at x))
    (bracketed (takes_so h) (spells_so i) (takes_so j))
spells_so (braced h i j) = braced (takes_so h) (spells_so i) (spells_so j)
spells_so (concatenation {at = at} {x = x} {all = all} {s = s} {r = r} h i j) =
    subst (λ (z : Expr). Spells (ABraced no_place (bare_expression x) z) (bare_tokens s) (bare_tokens r)) (sym (concatenation_so at all))
    (concatenation (at_next s (λ (kind : Kind). kind ≢ k.LeftBrace) h) (spells_so i) (takes_so j))
spells_so (replication {at = at} {x = x} {all = all} {s = s} {r = r} h i j o q) =
    subst (λ (z : Expr). Spells (ABraced no_place (bare_expression x) z) (bare_tokens s) (bare_tokens r)) (sym (replication_so at x all))
    (replication (takes_so h) (spells_so i) (spells_so j) (takes_so o) (takes_so q))
spells_so (behind h) = behind (spells_so h)
spells_so (no_other {s = s} h) = no_other (at_next s (λ (kind : Kind). kind ≢ k.Comma) h)
spells_so (another h i j) = another (takes_so h) (spells_so i) (spells_so j)
spells_so (whole {n = n} {s = s} h i) =
    subst (λ (z : Reference). Spells (ASelect (unplaced_name n) z) (bare_tokens s) (bare_tokens s)) (sym (whole_so n))
    (whole (at_next s (λ (kind : Kind). kind ≢ k.LeftBracket) h) (at_next s (λ (kind : Kind). kind ≢ k.Dot) i))
spells_so (select {r = r} h i j o q) =
    select (takes_so h) (spells_so i) (spells_so j) (takes_so o) (at_next r (λ (kind : Kind). kind ≢ k.Dot) q)
spells_so (bit {n = n} {x = x} {s = s} h i j) =
    subst (λ (z : Reference). Spells (APart (unplaced_name n) (bare_expression x) z) (bare_tokens s) (bare_tokens s)) (sym (bit_so n x))
    (bit (at_next s (λ (kind : Kind). kind ≢ k.Colon) h) (at_next s (λ (kind : Kind). kind ≢ k.PlusColon) i)
    (at_next s (λ (kind : Kind). kind ≢ k.MinusColon) j))
spells_so (part {n = n} {x = x} {y = y} {s = s} {r = r} h i) =
    subst (λ (z : Reference). Spells (APart (unplaced_name n) (bare_expression x) z) (bare_tokens s) (bare_tokens r))
    (sym (part_so n x y))
    (part (takes_so h) (spells_so i))
spells_so (upward {n = n} {x = x} {y = y} {s = s} {r = r} h i) =
    subst (λ (z : Reference). Spells (APart (unplaced_name n) (bare_expression x) z) (bare_tokens s) (bare_tokens r))
    (sym (upward_so n x y))
    (upward (takes_so h) (spells_so i))
spells_so (downward {n = n} {x = x} {y = y} {s = s} {r = r} h i) =
    subst (λ (z : Reference). Spells (APart (unplaced_name n) (bare_expression x) z) (bare_tokens s) (bare_tokens r))
    (sym (downward_so n x y))
    (downward (takes_so h) (spells_so i))
spells_so (range h i j o q) = range (takes_so h) (spells_so i) (takes_so j) (spells_so o) (takes_so q)
