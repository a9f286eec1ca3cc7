-- An expression without places, variant by variant.
use Rattle.std.proofs.Common.{◌≡◌, ◌∙◌, List, map, sym, ap}
use Rattle.ls_text.specs.declared.place.Place.{Place}
use Rattle.verilog_ast.specs.Places.{no_place}
use Rattle.verilog_ast.specs.declared.identifier.Identifier.{Identifier}
use Rattle.verilog_ast.specs.declared.number.Number.{Number}
use Rattle.verilog_ast.specs.declared.unary_operator.UnaryOperator.{UnaryOperator}
use Rattle.verilog_ast.specs.declared.binary_operator.BinaryOperator.{BinaryOperator}
use Rattle.verilog_ast.specs.declared.expression.Expr.{Expr}
use Rattle.verilog_ast.specs.declared.expression.Expr.TheVariants as e
use Rattle.verilog_ast.specs.declared.expression.Expr.TheOpen.{Expr-F, Reference-F}
use Rattle.verilog_ast.specs.declared.expression.Expr.TheFolds.{fold-roll-Expr, fold-roll-Reference}
use Rattle.verilog_ast.specs.declared.expression.Reference.{Reference}
use Rattle.verilog_ast.specs.declared.expression.Reference.TheVariants as ref
use Rattle.version_swap.specs.Unplaced.{unplaced_name}
use Rattle.version_swap.proofs.BareForms.{expression_step, reference_step, bare_expression, bare_reference}

pub number_so : (at : Place) (x : Number) → bare_expression (e.Number at x) ≡ e.Number no_place x
number_so at x =
    ap bare_expression (sym (e.rolls-Number at x))
    ∙ fold-roll-Expr Expr Reference expression_step reference_step (Expr-F.Number at x)

pub read_so : (x : Reference) → bare_expression (e.Read x) ≡ e.Read (bare_reference x)
read_so x =
    ap bare_expression (sym (e.rolls-Read x))
    ∙ fold-roll-Expr Expr Reference expression_step reference_step (Expr-F.Read x)

pub unary_so : (at : Place) (op : UnaryOperator) (x : Expr)
    → bare_expression (e.Unary at op x) ≡ e.Unary no_place op (bare_expression x)
unary_so at op x =
    ap bare_expression (sym (e.rolls-Unary at op x))
    ∙ fold-roll-Expr Expr Reference expression_step reference_step (Expr-F.Unary at op x)

pub binary_so : (op : BinaryOperator) (x y : Expr)
    → bare_expression (e.Binary op x y) ≡ e.Binary op (bare_expression x) (bare_expression y)
binary_so op x y =
    ap bare_expression (sym (e.rolls-Binary op x y))
    ∙ fold-roll-Expr Expr Reference expression_step reference_step (Expr-F.Binary op x y)

pub conditional_so : (x y z : Expr)
    → bare_expression (e.Conditional x y z) ≡ e.Conditional (bare_expression x) (bare_expression y) (bare_expression z)
conditional_so x y z =
    ap bare_expression (sym (e.rolls-Conditional x y z))
    ∙ fold-roll-Expr Expr Reference expression_step reference_step (Expr-F.Conditional x y z)

pub concatenation_so : (at : Place) (xs : List Expr)
    → bare_expression (e.Concatenation at xs) ≡ e.Concatenation no_place (map bare_expression xs)
concatenation_so at xs =
    ap bare_expression (sym (e.rolls-Concatenation at xs))
    ∙ fold-roll-Expr Expr Reference expression_step reference_step (Expr-F.Concatenation at xs)

pub replication_so : (at : Place) (x : Expr) (ys : List Expr)
    → bare_expression (e.Replication at x ys) ≡ e.Replication no_place (bare_expression x) (map bare_expression ys)
replication_so at x ys =
    ap bare_expression (sym (e.rolls-Replication at x ys))
    ∙ fold-roll-Expr Expr Reference expression_step reference_step (Expr-F.Replication at x ys)

pub bracketed_so : (at : Place) (x : Expr)
    → bare_expression (e.Bracketed at x) ≡ e.Bracketed no_place (bare_expression x)
bracketed_so at x =
    ap bare_expression (sym (e.rolls-Bracketed at x))
    ∙ fold-roll-Expr Expr Reference expression_step reference_step (Expr-F.Bracketed at x)

pub whole_so : (n : Identifier) → bare_reference (ref.Whole n) ≡ ref.Whole (unplaced_name n)
whole_so n =
    ap bare_reference (sym (ref.rolls-Whole n))
    ∙ fold-roll-Reference Expr Reference expression_step reference_step (Reference-F.Whole n)

pub bit_so : (n : Identifier) (x : Expr)
    → bare_reference (ref.Bit n x) ≡ ref.Bit (unplaced_name n) (bare_expression x)
bit_so n x =
    ap bare_reference (sym (ref.rolls-Bit n x))
    ∙ fold-roll-Reference Expr Reference expression_step reference_step (Reference-F.Bit n x)

pub part_so : (n : Identifier) (x y : Expr)
    → bare_reference (ref.Part n x y) ≡ ref.Part (unplaced_name n) (bare_expression x) (bare_expression y)
part_so n x y =
    ap bare_reference (sym (ref.rolls-Part n x y))
    ∙ fold-roll-Reference Expr Reference expression_step reference_step (Reference-F.Part n x y)

pub upward_so : (n : Identifier) (x y : Expr)
    → bare_reference (ref.Upward n x y) ≡ ref.Upward (unplaced_name n) (bare_expression x) (bare_expression y)
upward_so n x y =
    ap bare_reference (sym (ref.rolls-Upward n x y))
    ∙ fold-roll-Reference Expr Reference expression_step reference_step (Reference-F.Upward n x y)

pub downward_so : (n : Identifier) (x y : Expr)
    → bare_reference (ref.Downward n x y) ≡ ref.Downward (unplaced_name n) (bare_expression x) (bare_expression y)
downward_so n x y =
    ap bare_reference (sym (ref.rolls-Downward n x y))
    ∙ fold-roll-Reference Expr Reference expression_step reference_step (Reference-F.Downward n x y)
