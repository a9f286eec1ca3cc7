-- What a tree of the code is as plain data is written as a parser writes it.
use Rattle.std.proofs.Common.{List, [], ◌∷◌, map, sym, subst}
use Rattle.verilog_ast.specs.declared.expression.Expr.{Expr, roll-Expr}
use Rattle.verilog_ast.specs.declared.expression.Expr.TheOpen.{Expr-F, Reference-F}
use Rattle.verilog_ast.specs.declared.expression.Expr.TheFolds.{fold-roll-Expr, fold-roll-Reference, ind-Expr, ind-Reference, map-Expr, map-Reference}
use Rattle.verilog_ast.specs.declared.expression.Reference.{Reference, roll-Reference}
use Rattle.verilog_ast.specs.declared.target.Lhs.{Lhs, roll-Lhs}
use Rattle.verilog_ast.specs.declared.target.Lhs.TheOpen.{Lhs-F}
use Rattle.verilog_ast.specs.declared.target.Lhs.TheFolds.{fold-roll-Lhs, ind-Lhs, map-Lhs}
use Rattle.verilog_ast.specs.declared.label.Label.{Label}
use Rattle.verilog_ast.specs.declared.label.Label.TheVariants as label
use Rattle.verilog_ast.specs.declared.statement.Stmt.{Stmt, roll-Stmt}
use Rattle.verilog_ast.specs.declared.statement.Arm.{Arm, roll-Arm}
use Rattle.verilog_ast.specs.declared.statement.Arm.TheOpen.{Stmt-F, Arm-F}
use Rattle.verilog_ast.specs.declared.statement.Arm.TheFolds.{fold-roll-Stmt, fold-roll-Arm, ind-Stmt, map-Stmt, map-Arm}
use Rattle.verilog_ast.specs.declared.continuous.Continuous.{Continuous}
use Rattle.verilog_ast.specs.Expressions.{Expression, Literal, Whole, BitSelect, PartSelect, UpwardSelect, DownwardSelect, Unary, Binary, Conditional, Concatenation, Replication, Bracketed, NoPart, Parts, Target}
use Rattle.verilog_ast.specs.Statements.{Statement}
use Rattle.verilog_ast.specs.Views.{parts_of, expression_view, reference_view, expression_of, reference_of, targets_of, target_view, target_of, label_of, statements_of, statement_view, arm_view, statement_of, arm_of, assignment_of}
use Rattle.statement_rules.specs.Written.{IsWritten, ArePartsWritten, IsReference, IsTargetWritten, AreTargetsWritten, IsLabelWritten, AreLabelsWritten, IsStatementWritten, AreAssignsWritten}

-- ---- expressions

abbrev WrittenExpression : Expr → Type 0
WrittenExpression x = IsWritten (expression_of x)

abbrev WrittenReference : Reference → Type 0
WrittenReference x = IsReference (reference_of x)

reference_written : (x : Expression) → IsReference x → IsWritten x
reference_written (Whole n) w = tt
reference_written (BitSelect n x) w = w
reference_written (PartSelect n x y) w = w
reference_written (UpwardSelect n x y) w = w
reference_written (DownwardSelect n x y) w = w
reference_written (Literal at x) w = tt
reference_written (Unary at op x) w = absurd w
reference_written (Binary op x y) w = absurd w
reference_written (Conditional c x y) w = absurd w
reference_written (Concatenation at xs) w = absurd w
reference_written (Replication at c xs) w = absurd w
reference_written (Bracketed at x) w = absurd w
reference_written NoPart w = absurd w
reference_written (Parts x xs) w = absurd w

expression_layer : (l : Expr-F Expr Reference) → IsWritten (expression_view (map-Expr Expr Reference Expression Expression expression_of reference_of l)) → WrittenExpression (roll-Expr l)
expression_layer l h = subst IsWritten (sym (fold-roll-Expr Expression Expression expression_view reference_view l)) h

reference_layer : (l : Reference-F Expr Reference) → IsReference (reference_view (map-Reference Expr Reference Expression Expression expression_of reference_of l))
    → WrittenReference (roll-Reference l)
reference_layer l h = subst IsReference (sym (fold-roll-Reference Expression Expression expression_view reference_view l)) h

parts_written : (xs : List ((x : Expr) × WrittenExpression x)) → ArePartsWritten (parts_of (map expression_of (map (λ x. x.0) xs)))
parts_written [] = tt
parts_written (x ∷ xs) = (x.1, parts_written xs)

expression_node : (y : Expr-F ((x : Expr) × WrittenExpression x) ((x : Reference) × WrittenReference x))
    → WrittenExpression (roll-Expr (map-Expr ((x : Expr) × WrittenExpression x) ((x : Reference) × WrittenReference x) Expr Reference (λ x. x.0) (λ x. x.0) y))
expression_node (Expr-F.Number at x) = expression_layer (Expr-F.Number at x) tt
expression_node (Expr-F.Read x) = expression_layer (Expr-F.Read x.0) (reference_written (reference_of x.0) x.1)
expression_node (Expr-F.Unary at op x) = expression_layer (Expr-F.Unary at op x.0) x.1
expression_node (Expr-F.Binary op x y) = expression_layer (Expr-F.Binary op x.0 y.0) (x.1, y.1)
expression_node (Expr-F.Conditional x y z) = expression_layer (Expr-F.Conditional x.0 y.0 z.0) (x.1, (y.1, z.1))
expression_node (Expr-F.Concatenation at xs) = expression_layer (Expr-F.Concatenation at (map (λ x. x.0) xs)) (parts_written xs)
expression_node (Expr-F.Replication at x ys) = expression_layer (Expr-F.Replication at x.0 (map (λ x. x.0) ys)) (x.1, parts_written ys)
expression_node (Expr-F.Bracketed at x) = expression_layer (Expr-F.Bracketed at x.0) x.1

reference_node : (y : Reference-F ((x : Expr) × WrittenExpression x) ((x : Reference) × WrittenReference x))
    → WrittenReference (roll-Reference (map-Reference ((x : Expr) × WrittenExpression x) ((x : Reference) × WrittenReference x) Expr Reference (λ x. x.0) (λ x. x.0) y))
reference_node (Reference-F.Whole n) = reference_layer (Reference-F.Whole n) tt
reference_node (Reference-F.Bit n x) = reference_layer (Reference-F.Bit n x.0) x.1
reference_node (Reference-F.Part n x y) = reference_layer (Reference-F.Part n x.0 y.0) (x.1, y.1)
reference_node (Reference-F.Upward n x y) = reference_layer (Reference-F.Upward n x.0 y.0) (x.1, y.1)
reference_node (Reference-F.Downward n x y) = reference_layer (Reference-F.Downward n x.0 y.0) (x.1, y.1)

pub expression_is_written : (x : Expr) → IsWritten (expression_of x)
expression_is_written x = ind-Expr WrittenExpression WrittenReference (λ x y is. subst (λ z. WrittenExpression (roll-Expr z)) is (expression_node y))
    (λ x y is. subst (λ z. WrittenReference (roll-Reference z)) is (reference_node y)) x

reference_is_written : (x : Reference) → IsReference (reference_of x)
reference_is_written x = ind-Reference WrittenExpression WrittenReference (λ x y is. subst (λ z. WrittenExpression (roll-Expr z)) is (expression_node y))
    (λ x y is. subst (λ z. WrittenReference (roll-Reference z)) is (reference_node y)) x

-- ---- targets

abbrev WrittenTarget : Lhs → Type 0
WrittenTarget x = IsTargetWritten (target_of x)

target_layer : (l : Lhs-F Lhs) → IsTargetWritten (target_view (map-Lhs Lhs Target target_of l)) → WrittenTarget (roll-Lhs l)
target_layer l h = subst IsTargetWritten (sym (fold-roll-Lhs Target target_view l)) h

targets_written : (xs : List ((x : Lhs) × WrittenTarget x)) → AreTargetsWritten (targets_of (map target_of (map (λ x. x.0) xs)))
targets_written [] = tt
targets_written (x ∷ xs) = (x.1, targets_written xs)

target_node : (y : Lhs-F ((x : Lhs) × WrittenTarget x)) → WrittenTarget (roll-Lhs (map-Lhs ((x : Lhs) × WrittenTarget x) Lhs (λ x. x.0) y))
target_node (Lhs-F.Reference x) = target_layer (Lhs-F.Reference x) (reference_is_written x)
target_node (Lhs-F.Concatenation at xs) = target_layer (Lhs-F.Concatenation at (map (λ x. x.0) xs)) (targets_written xs)

pub target_is_written : (x : Lhs) → IsTargetWritten (target_of x)
target_is_written x = ind-Lhs WrittenTarget (λ x y is. subst (λ z. WrittenTarget (roll-Lhs z)) is (target_node y)) x

-- ---- statements

label_written : (x : Label) → IsLabelWritten (label_of x)
label_written (label.Pattern at x) = tt
label_written (label.Expr x) = expression_is_written x

labels_written : (ls : List Label) → AreLabelsWritten (map label_of ls)
labels_written [] = tt
labels_written (l ∷ ls) = (label_written l, labels_written ls)

abbrev WrittenStatement : Stmt → Type 0
WrittenStatement x = IsStatementWritten (statement_of x)

abbrev WrittenArm : Arm → Type 0
WrittenArm x = IsStatementWritten (arm_of x)

statement_layer : (l : Stmt-F Arm Stmt) → IsStatementWritten (statement_view (map-Stmt Arm Stmt Statement Statement arm_of statement_of l)) → WrittenStatement (roll-Stmt l)
statement_layer l h = subst IsStatementWritten (sym (fold-roll-Stmt Statement Statement arm_view statement_view l)) h

arm_layer : (l : Arm-F Arm Stmt) → IsStatementWritten (arm_view (map-Arm Arm Stmt Statement Statement arm_of statement_of l)) → WrittenArm (roll-Arm l)
arm_layer l h = subst IsStatementWritten (sym (fold-roll-Arm Statement Statement arm_view statement_view l)) h

statements_written : (xs : List ((x : Stmt) × WrittenStatement x)) → IsStatementWritten (statements_of (map statement_of (map (λ x. x.0) xs)))
statements_written [] = tt
statements_written (x ∷ xs) = (x.1, statements_written xs)

arms_written : (xs : List ((x : Arm) × WrittenArm x)) → IsStatementWritten (statements_of (map arm_of (map (λ x. x.0) xs)))
arms_written [] = tt
arms_written (x ∷ xs) = (x.1, arms_written xs)

statement_node : (y : Stmt-F ((x : Arm) × WrittenArm x) ((x : Stmt) × WrittenStatement x))
    → WrittenStatement (roll-Stmt (map-Stmt ((x : Arm) × WrittenArm x) ((x : Stmt) × WrittenStatement x) Arm Stmt (λ x. x.0) (λ x. x.0) y))
statement_node (Stmt-F.Block at l xs) = statement_layer (Stmt-F.Block at l (map (λ x. x.0) xs)) (statements_written xs)
statement_node (Stmt-F.If at x y) = statement_layer (Stmt-F.If at x y.0) (expression_is_written x, y.1)
statement_node (Stmt-F.IfElse at x y z) = statement_layer (Stmt-F.IfElse at x y.0 z.0) (expression_is_written x, (y.1, z.1))
statement_node (Stmt-F.Case at which x ys) = statement_layer (Stmt-F.Case at which x (map (λ x. x.0) ys)) (expression_is_written x, arms_written ys)
statement_node (Stmt-F.Assign x y) = statement_layer (Stmt-F.Assign x y) (target_is_written x, expression_is_written y)
statement_node (Stmt-F.Empty at) = statement_layer (Stmt-F.Empty at) tt

arm_node : (y : Arm-F ((x : Arm) × WrittenArm x) ((x : Stmt) × WrittenStatement x))
    → WrittenArm (roll-Arm (map-Arm ((x : Arm) × WrittenArm x) ((x : Stmt) × WrittenStatement x) Arm Stmt (λ x. x.0) (λ x. x.0) y))
arm_node (Arm-F.Default at x) = arm_layer (Arm-F.Default at x.0) x.1
arm_node (Arm-F.Match ls x) = arm_layer (Arm-F.Match ls x.0) (labels_written ls, x.1)

pub statement_is_written : (x : Stmt) → IsStatementWritten (statement_of x)
statement_is_written x = ind-Stmt WrittenArm WrittenStatement (λ x y is. subst (λ z. WrittenArm (roll-Arm z)) is (arm_node y))
    (λ x y is. subst (λ z. WrittenStatement (roll-Stmt z)) is (statement_node y)) x

-- ---- continuous assignments

pub assigns_are_written : (xs : List Continuous) → AreAssignsWritten (map assignment_of xs)
assigns_are_written [] = tt
assigns_are_written (x ∷ xs) = ((target_is_written x.target, expression_is_written _), assigns_are_written xs)
