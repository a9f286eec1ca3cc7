-- An expression under other names, variant by variant.
use Rattle.std.proofs.Common.{◌≡◌, ◌∙◌, List, map, sym, ap}
use Rattle.ls_text.specs.declared.place.Place.{Place}
use Rattle.ls_text.specs.declared.name_id.NameId.{NameId}
use Rattle.verilog_ast.specs.declared.identifier.Identifier.{Identifier}
use Rattle.verilog_ast.specs.declared.number.Number.{Number}
use Rattle.verilog_ast.specs.declared.unary_operator.UnaryOperator.{UnaryOperator}
use Rattle.verilog_ast.specs.declared.binary_operator.BinaryOperator.{BinaryOperator}
use Rattle.verilog_ast.specs.declared.expression.Expr.{Expr}
use Rattle.verilog_ast.specs.declared.expression.Expr.TheVariants as e
use Rattle.verilog_ast.specs.declared.expression.Expr.TheOpen.{Expr-F, Reference-F}
use Rattle.verilog_ast.specs.declared.expression.Expr.TheFolds.{fold-roll-Expr, fold-roll-Reference}
use Rattle.verilog_ast.specs.declared.expression.Reference.{Reference}
use Rattle.verilog_ast.specs.declared.expression.Reference.TheVariants as ref
use Rattle.verilog_ast.specs.Renamed.{renamed_identifier, expression_step, reference_step, renamed_expression, renamed_reference}

pub number_so : (f : NameId → NameId) (at : Place) (x : Number) → renamed_expression f (e.Number at x) ≡ e.Number at x
number_so f at x =
    ap (renamed_expression f) (sym (e.rolls-Number at x))
    ∙ fold-roll-Expr Expr Reference expression_step (reference_step f) (Expr-F.Number at x)

pub read_so : (f : NameId → NameId) (x : Reference) → renamed_expression f (e.Read x) ≡ e.Read (renamed_reference f x)
read_so f x =
    ap (renamed_expression f) (sym (e.rolls-Read x))
    ∙ fold-roll-Expr Expr Reference expression_step (reference_step f) (Expr-F.Read x)

pub unary_so : (f : NameId → NameId) (at : Place) (op : UnaryOperator) (x : Expr)
    → renamed_expression f (e.Unary at op x) ≡ e.Unary at op (renamed_expression f x)
unary_so f at op x =
    ap (renamed_expression f) (sym (e.rolls-Unary at op x))
    ∙ fold-roll-Expr Expr Reference expression_step (reference_step f) (Expr-F.Unary at op x)

pub binary_so : (f : NameId → NameId) (op : BinaryOperator) (x y : Expr)
    → renamed_expression f (e.Binary op x y) ≡ e.Binary op (renamed_expression f x) (renamed_expression f y)
binary_so f op x y =
    ap (renamed_expression f) (sym (e.rolls-Binary op x y))
    ∙ fold-roll-Expr Expr Reference expression_step (reference_step f) (Expr-F.Binary op x y)

pub conditional_so : (f : NameId → NameId) (x y z : Expr)
    → renamed_expression f (e.Conditional x y z) ≡ e.Conditional (renamed_expression f x) (renamed_expression f y) (renamed_expression f z)
conditional_so f x y z =
    ap (renamed_expression f) (sym (e.rolls-Conditional x y z))
    ∙ fold-roll-Expr Expr Reference expression_step (reference_step f) (Expr-F.Conditional x y z)

pub concatenation_so : (f : NameId → NameId) (at : Place) (xs : List Expr)
    → renamed_expression f (e.Concatenation at xs) ≡ e.Concatenation at (map (renamed_expression f) xs)
concatenation_so f at xs =
    ap (renamed_expression f) (sym (e.rolls-Concatenation at xs))
    ∙ fold-roll-Expr Expr Reference expression_step (reference_step f) (Expr-F.Concatenation at xs)

pub replication_so : (f : NameId → NameId) (at : Place) (x : Expr) (ys : List Expr)
    → renamed_expression f (e.Replication at x ys) ≡ e.Replication at (renamed_expression f x) (map (renamed_expression f) ys)
replication_so f at x ys =
    ap (renamed_expression f) (sym (e.rolls-Replication at x ys))
    ∙ fold-roll-Expr Expr Reference expression_step (reference_step f) (Expr-F.Replication at x ys)

pub bracketed_so : (f : NameId → NameId) (at : Place) (x : Expr)
    → renamed_expression f (e.Bracketed at x) ≡ e.Bracketed at (renamed_expression f x)
bracketed_so f at x =
    ap (renamed_expression f) (sym (e.rolls-Bracketed at x))
    ∙ fold-roll-Expr Expr Reference expression_step (reference_step f) (Expr-F.Bracketed at x)

pub whole_so : (f : NameId → NameId) (n : Identifier) → renamed_reference f (ref.Whole n) ≡ ref.Whole (renamed_identifier f n)
whole_so f n =
    ap (renamed_reference f) (sym (ref.rolls-Whole n))
    ∙ fold-roll-Reference Expr Reference expression_step (reference_step f) (Reference-F.Whole n)

pub bit_so : (f : NameId → NameId) (n : Identifier) (x : Expr)
    → renamed_reference f (ref.Bit n x) ≡ ref.Bit (renamed_identifier f n) (renamed_expression f x)
bit_so f n x =
    ap (renamed_reference f) (sym (ref.rolls-Bit n x))
    ∙ fold-roll-Reference Expr Reference expression_step (reference_step f) (Reference-F.Bit n x)

pub part_so : (f : NameId → NameId) (n : Identifier) (x y : Expr)
    → renamed_reference f (ref.Part n x y) ≡ ref.Part (renamed_identifier f n) (renamed_expression f x) (renamed_expression f y)
part_so f n x y =
    ap (renamed_reference f) (sym (ref.rolls-Part n x y))
    ∙ fold-roll-Reference Expr Reference expression_step (reference_step f) (Reference-F.Part n x y)

pub upward_so : (f : NameId → NameId) (n : Identifier) (x y : Expr)
    → renamed_reference f (ref.Upward n x y) ≡ ref.Upward (renamed_identifier f n) (renamed_expression f x) (renamed_expression f y)
upward_so f n x y =
    ap (renamed_reference f) (sym (ref.rolls-Upward n x y))
    ∙ fold-roll-Reference Expr Reference expression_step (reference_step f) (Reference-F.Upward n x y)

pub downward_so : (f : NameId → NameId) (n : Identifier) (x y : Expr)
    → renamed_reference f (ref.Downward n x y) ≡ ref.Downward (renamed_identifier f n) (renamed_expression f x) (renamed_expression f y)
downward_so f n x y =
    ap (renamed_reference f) (sym (ref.rolls-Downward n x y))
    ∙ fold-roll-Reference Expr Reference expression_step (reference_step f) (Reference-F.Downward n x y)
