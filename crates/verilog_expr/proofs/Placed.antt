-- An expression stands where its first token does.
use Rattle.std.proofs.Common.{◌≡◌, ◌∙◌, List, refl, sym, ap}
use Rattle.verilog_lex.specs.declared.token.Token.{Token}
use Rattle.verilog_lex.specs.declared.kind.Kind.{Kind}
use Rattle.verilog_ast.specs.declared.expression.Expr.{Expr}
use Rattle.verilog_ast.specs.declared.expression.Reference.{Reference}
use Rattle.verilog_ast.specs.declared.identifier.Identifier.{Identifier}
use Rattle.verilog_ast.specs.Places.{expression_place}
use Rattle.verilog_ast.specs.Views.{expression_of, reference_of}
use Rattle.verilog_ast.proofs.Seen as seen
use Rattle.verilog_expr.specs.Tokens.{Takes, taken, place_at, number_of}
use Rattle.verilog_expr.specs.Spells.{Phrase, Spells, AnExpression, AChain, AnOperand, ASelect, APart, ABraced, Behind, Others, ARange, plain, conditional, one, binary, number, unary, read, bracketed, braced, concatenation, replication, behind, no_other, another, whole, select, bit, part, upward, downward, range}

-- a token stands where it is next
pub token_place : {kind : Kind} {s r : List Token} {t : Token} → Takes kind s r t → t.at ≡ place_at s
token_place (taken cut is) = sym (ap place_at cut)

-- where a phrase has its place from: its first token, or what is before it
abbrev IsPlaced : Phrase → List Token → Type 0
IsPlaced (AnExpression x) s = expression_place (expression_of x) ≡ place_at s
IsPlaced (AChain p x) s = expression_place (expression_of x) ≡ place_at s
IsPlaced (AnOperand x) s = expression_place (expression_of x) ≡ place_at s
IsPlaced (ASelect n x) s = expression_place (reference_of x) ≡ n.at
IsPlaced (APart n x y) s = expression_place (reference_of y) ≡ n.at
IsPlaced (ABraced at x y) s = expression_place (expression_of y) ≡ at
IsPlaced (Behind x xs) s = Unit {0}
IsPlaced (Others xs) s = Unit {0}
IsPlaced (ARange x) s = Unit {0}

pub placed : {phrase : Phrase} {s r : List Token} → Spells phrase s r → IsPlaced phrase s
placed (plain h i j) = placed h
placed (conditional {c = c} {x = x} {y = y} h t i u j) = ap expression_place (seen.conditional_seen c x y) ∙ placed h
placed (one h) = placed h
placed (binary {op = op} {x = x} {y = y} least h is t i) = ap expression_place (seen.binary_seen op x y) ∙ placed h
placed (number {t = t} h) = ap expression_place (seen.number_seen t.at (number_of t)) ∙ token_place h
placed (unary {op = op} {x = x} {t = t} is h i) = ap expression_place (seen.unary_seen t.at op x) ∙ token_place h
placed (read {x = x} h i) = ap expression_place (seen.read_seen x) ∙ placed i ∙ token_place h
placed (bracketed {x = x} {t = t} h i j) = ap expression_place (seen.bracketed_seen t.at x) ∙ token_place h
placed (braced h i j) = placed j ∙ token_place h
placed (concatenation {at = at} {all = all} free h t) = ap expression_place (seen.concatenation_seen at all)
placed (replication {at = at} {x = x} {all = all} h i j t u) = ap expression_place (seen.replication_seen at x all)
placed (behind h) = tt
placed (no_other free) = tt
placed (another t h i) = tt
placed (whole {n = n} free others) = ap expression_place (seen.whole_seen n)
placed (select t h i u free) = placed i
placed (bit {n = n} {x = x} a b c) = ap expression_place (seen.bit_seen n x)
placed (part {n = n} {x = x} {y = y} t h) = ap expression_place (seen.part_seen n x y)
placed (upward {n = n} {x = x} {y = y} t h) = ap expression_place (seen.upward_seen n x y)
placed (downward {n = n} {x = x} {y = y} t h) = ap expression_place (seen.downward_seen n x y)
placed (range t h u i v) = tt

pub expression_placed : (x : Expr) (s r : List Token) → Spells (AnExpression x) s r → expression_place (expression_of x) ≡ place_at s
expression_placed x s r h = placed h

pub select_placed : (n : Identifier) (x : Reference) (s r : List Token) → Spells (ASelect n x) s r → expression_place (reference_of x) ≡ n.at
select_placed n x s r h = placed h
