-- Expressions, ranges and selects that begin at the same tokens.
use Rattle.std.proofs.Common.{◌≡◌, List, sym, subst}
use Rattle.verilog_lex.specs.declared.token.Token.{Token}
use Rattle.verilog_ast.specs.declared.identifier.Identifier.{Identifier}
use Rattle.verilog_ast.specs.declared.expression.Expr.{Expr}
use Rattle.verilog_ast.specs.declared.expression.Reference.{Reference}
use Rattle.verilog_ast.specs.declared.range.Range.{Range}
use Rattle.verilog_expr.specs.Spells.{Spells, AnExpression, ASelect, ARange}
use Rattle.verilog_expr.proofs.OneReading.{one_expression, one_select, one_range}

pub same_expression : {x y : Expr} {s q r p : List Token} → Spells (AnExpression x) s r → Spells (AnExpression y) q p → s ≡ q
    → (x ≡ y) × (r ≡ p)
same_expression {x} {y} {s} {q} {r} {p} h d same =
    one_expression x y s r p h (subst (λ (l : List Token). Spells (AnExpression y) l p) (sym same) d)

pub same_range : {x y : Range} {s q r p : List Token} → Spells (ARange x) s r → Spells (ARange y) q p → s ≡ q → (x ≡ y) × (r ≡ p)
same_range {x} {y} {s} {q} {r} {p} h d same = one_range x y s r p h (subst (λ (l : List Token). Spells (ARange y) l p) (sym same) d)

pub same_select : {n m : Identifier} {x y : Reference} {s q r p : List Token} → Spells (ASelect n x) s r → Spells (ASelect m y) q p → n ≡ m → s ≡ q
    → (x ≡ y) × (r ≡ p)
same_select {n} {m} {x} {y} {s} {q} {r} {p} h d is same =
    let e = subst (λ (i : Identifier). Spells (ASelect i y) q p) (sym is) d in
    one_select n x y s r p h (subst (λ (l : List Token). Spells (ASelect n y) l p) (sym same) e)
