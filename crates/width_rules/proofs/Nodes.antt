-- A node of an expression as plain data, whose parts are other nodes that are equal.
use Rattle.std.proofs.Common.{◌≡◌, sym, ap, ap₂, ◌∙◌}
use Rattle.verilog_ast.specs.declared.expression.Expr.{Expr}
use Rattle.verilog_ast.specs.declared.expression.Expr.TheVariants as node
use Rattle.verilog_ast.specs.Expressions as e
use Rattle.verilog_ast.specs.Expressions.{Expression}
use Rattle.verilog_ast.specs.Views.{expression_of}
use Rattle.verilog_ast.proofs.Seen.{conditional_seen}

pub conditional_same : (c c' x x' y y' : Expr) → c ≡ c' → x ≡ x' → y ≡ y'
    → e.Conditional (expression_of c) (expression_of x) (expression_of y) ≡ expression_of (node.Conditional c' x' y')
conditional_same c c' x x' y y' h k l =
    ap₂ (λ (p q : Expression). e.Conditional p q (expression_of y)) (ap expression_of h) (ap expression_of k)
    ∙ ap (e.Conditional (expression_of c') (expression_of x')) (ap expression_of l) ∙ sym (conditional_seen c' x' y')
