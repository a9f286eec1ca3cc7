-- Statements come back from the plain data that is their view, so a view loses nothing of them.
use Rattle.std.proofs.Common.{◌≡◌, ◌∙◌, List, [], ◌∷◌, map, refl, ap, ap₂, subst}
use Rattle.verilog_ast.specs.declared.expression.Expr.{Expr}
use Rattle.verilog_ast.specs.declared.target.Lhs.{Lhs}
use Rattle.verilog_ast.specs.declared.label.Label.{Label}
use Rattle.verilog_ast.specs.declared.label.Label.TheVariants as label
use Rattle.verilog_ast.specs.declared.statement.Stmt.{Stmt, roll-Stmt}
use Rattle.verilog_ast.specs.declared.statement.Arm.{Arm, roll-Arm}
use Rattle.verilog_ast.specs.declared.statement.Arm.TheOpen.{Stmt-F, Arm-F}
use Rattle.verilog_ast.specs.declared.statement.Arm.TheFolds.{fold-roll-Stmt, fold-roll-Arm, ind-Stmt, map-Stmt, map-Arm}
use Rattle.verilog_ast.specs.Statements as v
use Rattle.verilog_ast.specs.Statements.{CaseLabel, Statement}
use Rattle.verilog_ast.specs.Places.{no_place}
use Rattle.verilog_ast.specs.Views.{label_of, statements_of, statement_view, arm_view, statement_of, arm_of}
use Rattle.verilog_ast.proofs.Equal.{ap₃}
use Rattle.verilog_ast.proofs.BackExpressions.{expression_back, target_back, back_expression, back_target}

-- what comes back of each element comes back of a list
pub back_all : {A B : Type 0} (view : A → B) (back : B → A) → ((x : A) → back (view x) ≡ x) → (xs : List A) → map back (map view xs) ≡ xs
back_all view back same [] = refl
back_all view back same (x ∷ xs) = ap₂ (λ y ys. y ∷ ys) (same x) (back_all view back same xs)

-- ---- the way back; of what is no view it gives an empty statement or an arm with it

abbrev label_back : CaseLabel → Label
label_back (v.DontCare at x) = label.Pattern at x
label_back (v.Compared x) = label.Expr (expression_back x)

abbrev no_statement : Stmt
no_statement = roll-Stmt (Stmt-F.Empty no_place)

abbrev no_arm : Arm
no_arm = roll-Arm (Arm-F.Default no_place no_statement)

abbrev mutual
  pub statement_back : Statement → Stmt
  statement_back (v.Block at l xs) = roll-Stmt (Stmt-F.Block at l (statements_back xs))
  statement_back (v.If at x y) = roll-Stmt (Stmt-F.If at (expression_back x) (statement_back y))
  statement_back (v.IfElse at x y z) = roll-Stmt (Stmt-F.IfElse at (expression_back x) (statement_back y) (statement_back z))
  statement_back (v.Case at which x ys) = roll-Stmt (Stmt-F.Case at which (expression_back x) (arms_back ys))
  statement_back (v.Assignment x y) = roll-Stmt (Stmt-F.Assign (target_back x) (expression_back y))
  statement_back (v.Null at) = roll-Stmt (Stmt-F.Empty at)
  statement_back _ = no_statement

  statements_back : Statement → List Stmt
  statements_back (v.Statements x xs) = statement_back x ∷ statements_back xs
  statements_back _ = []

  arm_back : Statement → Arm
  arm_back (v.Default at x) = roll-Arm (Arm-F.Default at (statement_back x))
  arm_back (v.Match ls x) = roll-Arm (Arm-F.Match (map label_back ls) (statement_back x))
  arm_back _ = no_arm

  arms_back : Statement → List Arm
  arms_back (v.Statements x xs) = arm_back x ∷ arms_back xs
  arms_back _ = []

-- ---- labels, arms and statements

back_label : (x : Label) → label_back (label_of x) ≡ x
back_label (label.Pattern at x) = refl
back_label (label.Expr x) = ap label.Expr (back_expression x)

abbrev ComesBack : Stmt → Type 0
ComesBack x = statement_back (statement_of x) ≡ x

abbrev ArmBack : Arm → Type 0
ArmBack x = arm_back (arm_of x) ≡ x

-- what is left to show of a node is that of its layer
statement_layer : (l : Stmt-F Arm Stmt) → statement_back (statement_view (map-Stmt Arm Stmt Statement Statement arm_of statement_of l)) ≡ roll-Stmt l
    → ComesBack (roll-Stmt l)
statement_layer l h = ap statement_back (fold-roll-Stmt Statement Statement arm_view statement_view l) ∙ h

arm_layer : (l : Arm-F Arm Stmt) → arm_back (arm_view (map-Arm Arm Stmt Statement Statement arm_of statement_of l)) ≡ roll-Arm l → ArmBack (roll-Arm l)
arm_layer l h = ap arm_back (fold-roll-Arm Statement Statement arm_view statement_view l) ∙ h

statements_come_back : (xs : List ((x : Stmt) × ComesBack x)) → statements_back (statements_of (map statement_of (map (λ x. x.0) xs))) ≡ map (λ x. x.0) xs
statements_come_back [] = refl
statements_come_back (x ∷ xs) = ap₂ (λ (y : Stmt) (ys : List Stmt). y ∷ ys) x.1 (statements_come_back xs)

arms_come_back : (xs : List ((x : Arm) × ArmBack x)) → arms_back (statements_of (map arm_of (map (λ x. x.0) xs))) ≡ map (λ x. x.0) xs
arms_come_back [] = refl
arms_come_back (x ∷ xs) = ap₂ (λ (y : Arm) (ys : List Arm). y ∷ ys) x.1 (arms_come_back xs)

statement_node : (y : Stmt-F ((x : Arm) × ArmBack x) ((x : Stmt) × ComesBack x))
    → ComesBack (roll-Stmt (map-Stmt ((x : Arm) × ArmBack x) ((x : Stmt) × ComesBack x) Arm Stmt (λ x. x.0) (λ x. x.0) y))
statement_node (Stmt-F.Block at l xs) =
    statement_layer (Stmt-F.Block at l (map (λ x. x.0) xs)) (ap (λ (bs : List Stmt). roll-Stmt (Stmt-F.Block at l bs)) (statements_come_back xs))
statement_node (Stmt-F.If at x y) =
    statement_layer (Stmt-F.If at x y.0) (ap₂ (λ (a : Expr) (b : Stmt). roll-Stmt (Stmt-F.If at a b)) (back_expression x) y.1)
statement_node (Stmt-F.IfElse at x y z) =
    statement_layer (Stmt-F.IfElse at x y.0 z.0)
    (ap₃ (λ (a : Expr) (b c : Stmt). roll-Stmt (Stmt-F.IfElse at a b c)) (back_expression x) y.1 z.1)
statement_node (Stmt-F.Case at which x ys) =
    statement_layer (Stmt-F.Case at which x (map (λ x. x.0) ys))
    (ap₂ (λ (a : Expr) (bs : List Arm). roll-Stmt (Stmt-F.Case at which a bs)) (back_expression x) (arms_come_back ys))
statement_node (Stmt-F.Assign x y) =
    statement_layer (Stmt-F.Assign x y) (ap₂ (λ (a : Lhs) (b : Expr). roll-Stmt (Stmt-F.Assign a b)) (back_target x) (back_expression y))
statement_node (Stmt-F.Empty at) = statement_layer (Stmt-F.Empty at) refl

arm_node : (y : Arm-F ((x : Arm) × ArmBack x) ((x : Stmt) × ComesBack x))
    → ArmBack (roll-Arm (map-Arm ((x : Arm) × ArmBack x) ((x : Stmt) × ComesBack x) Arm Stmt (λ x. x.0) (λ x. x.0) y))
arm_node (Arm-F.Default at x) = arm_layer (Arm-F.Default at x.0) (ap (λ (a : Stmt). roll-Arm (Arm-F.Default at a)) x.1)
arm_node (Arm-F.Match ls x) =
    arm_layer (Arm-F.Match ls x.0)
    (ap₂ (λ (as_labels : List Label) (a : Stmt). roll-Arm (Arm-F.Match as_labels a)) (back_all label_of label_back back_label ls) x.1)

pub back_statement : (x : Stmt) → statement_back (statement_of x) ≡ x
back_statement x = ind-Stmt ArmBack ComesBack (λ x y is. subst (λ z. ArmBack (roll-Arm z)) is (arm_node y))
    (λ x y is. subst (λ z. ComesBack (roll-Stmt z)) is (statement_node y)) x
