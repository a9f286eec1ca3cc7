-- What statements without places are as plain data is what they are, without them.
use Rattle.std.proofs.Common.{◌≡◌, ◌∙◌, List, [], ◌∷◌, map, refl, sym, ap, ap₂, subst}
use Rattle.std.specs.Option.{option_map}
use Rattle.ls_text.proofs.Lists.{map_so}
use Rattle.verilog_ast.specs.Places.{no_place}
use Rattle.verilog_ast.specs.declared.label.Label.{Label}
use Rattle.verilog_ast.specs.declared.label.Label.TheVariants as label
use Rattle.verilog_ast.specs.declared.statement.Stmt.{Stmt, roll-Stmt}
use Rattle.verilog_ast.specs.declared.statement.Stmt.TheVariants as s
use Rattle.verilog_ast.specs.declared.statement.Arm.{Arm, roll-Arm}
use Rattle.verilog_ast.specs.declared.statement.Arm.TheVariants as a
use Rattle.verilog_ast.specs.declared.statement.Arm.TheOpen.{Stmt-F, Arm-F}
use Rattle.verilog_ast.specs.declared.statement.Arm.TheFolds.{fold-roll-Stmt, fold-roll-Arm, ind-Stmt, map-Stmt, map-Arm}
use Rattle.verilog_ast.specs.Statements.{Compared, Statement, Block, If, IfElse, Case, Assignment, Default, Match, Statements}
use Rattle.version_swap.proofs.BareForms.{bare_expression, bare_target, bare_label, statement_step, arm_step, bare_statement, bare_arm}
use Rattle.verilog_ast.specs.Views.{label_of, statements_of, statement_view, arm_view, statement_of, arm_of}
use Rattle.version_swap.specs.Unplaced.{unplaced_name, unplaced_label, unplaced_statement}
use Rattle.verilog_ast.proofs.Equal.{ap₃}
use Rattle.version_swap.proofs.BareViews.{same_expression, same_target}

same_label : (x : Label) → label_of (bare_label x) ≡ unplaced_label (label_of x)
same_label (label.Pattern at x) = refl
same_label (label.Expr x) = ap Compared (same_expression x)

abbrev SameStatement : Stmt → Type 0
SameStatement x = statement_of (bare_statement x) ≡ unplaced_statement (statement_of x)

abbrev SameArm : Arm → Type 0
SameArm x = arm_of (bare_arm x) ≡ unplaced_statement (arm_of x)

-- ---- layers

abbrev placeless_statement : Stmt-F Arm Stmt → Stmt-F Arm Stmt
placeless_statement (Stmt-F.Block at l xs) = Stmt-F.Block no_place (option_map unplaced_name l) xs
placeless_statement (Stmt-F.If at x y) = Stmt-F.If no_place (bare_expression x) y
placeless_statement (Stmt-F.IfElse at x y z) = Stmt-F.IfElse no_place (bare_expression x) y z
placeless_statement (Stmt-F.Case at which x ys) = Stmt-F.Case no_place which (bare_expression x) ys
placeless_statement (Stmt-F.Assign x y) = Stmt-F.Assign (bare_target x) (bare_expression y)
placeless_statement (Stmt-F.Empty at) = Stmt-F.Empty no_place

statement_rolls : (l : Stmt-F Arm Stmt) → roll-Stmt (placeless_statement l) ≡ statement_step l
statement_rolls (Stmt-F.Block at l xs) = s.rolls-Block no_place (option_map unplaced_name l) xs
statement_rolls (Stmt-F.If at x y) = s.rolls-If no_place (bare_expression x) y
statement_rolls (Stmt-F.IfElse at x y z) = s.rolls-IfElse no_place (bare_expression x) y z
statement_rolls (Stmt-F.Case at which x ys) = s.rolls-Case no_place which (bare_expression x) ys
statement_rolls (Stmt-F.Assign x y) = s.rolls-Assign (bare_target x) (bare_expression y)
statement_rolls (Stmt-F.Empty at) = s.rolls-Empty no_place

abbrev placeless_arm : Arm-F Arm Stmt → Arm-F Arm Stmt
placeless_arm (Arm-F.Default at x) = Arm-F.Default no_place x
placeless_arm (Arm-F.Match ls x) = Arm-F.Match (map bare_label ls) x

arm_rolls : (l : Arm-F Arm Stmt) → roll-Arm (placeless_arm l) ≡ arm_step l
arm_rolls (Arm-F.Default at x) = a.rolls-Default no_place x
arm_rolls (Arm-F.Match ls x) = a.rolls-Match (map bare_label ls) x

abbrev bare_layer : Stmt-F Arm Stmt → Stmt-F Arm Stmt
bare_layer l = placeless_statement (map-Stmt Arm Stmt Arm Stmt bare_arm bare_statement l)

abbrev viewed_layer : Stmt-F Arm Stmt → Statement
viewed_layer l = statement_view (map-Stmt Arm Stmt Statement Statement arm_of statement_of l)

statement_layer : (l : Stmt-F Arm Stmt) → viewed_layer (bare_layer l) ≡ unplaced_statement (viewed_layer l) → SameStatement (roll-Stmt l)
statement_layer l h =
    ap statement_of (fold-roll-Stmt Arm Stmt arm_step statement_step l
    ∙ sym (statement_rolls (map-Stmt Arm Stmt Arm Stmt bare_arm bare_statement l)))
    ∙ fold-roll-Stmt Statement Statement arm_view statement_view (bare_layer l)
    ∙ h
    ∙ ap unplaced_statement (sym (fold-roll-Stmt Statement Statement arm_view statement_view l))

abbrev bare_arm_layer : Arm-F Arm Stmt → Arm-F Arm Stmt
bare_arm_layer l = placeless_arm (map-Arm Arm Stmt Arm Stmt bare_arm bare_statement l)

abbrev viewed_arm_layer : Arm-F Arm Stmt → Statement
viewed_arm_layer l = arm_view (map-Arm Arm Stmt Statement Statement arm_of statement_of l)

arm_layer : (l : Arm-F Arm Stmt) → viewed_arm_layer (bare_arm_layer l) ≡ unplaced_statement (viewed_arm_layer l) → SameArm (roll-Arm l)
arm_layer l h =
    ap arm_of (fold-roll-Arm Arm Stmt arm_step statement_step l
    ∙ sym (arm_rolls (map-Arm Arm Stmt Arm Stmt bare_arm bare_statement l)))
    ∙ fold-roll-Arm Statement Statement arm_view statement_view (bare_arm_layer l)
    ∙ h
    ∙ ap unplaced_statement (sym (fold-roll-Arm Statement Statement arm_view statement_view l))

-- ---- nodes

same_statements : (xs : List ((x : Stmt) × SameStatement x))
    → statements_of (map statement_of (map bare_statement (map (λ x. x.0) xs))) ≡ unplaced_statement (statements_of (map statement_of (map
    (λ x. x.0) xs)))
same_statements [] = refl
same_statements (x ∷ xs) = ap₂ Statements x.1 (same_statements xs)

same_arms : (xs : List ((x : Arm) × SameArm x))
    → statements_of (map arm_of (map bare_arm (map (λ x. x.0) xs))) ≡ unplaced_statement (statements_of (map arm_of (map (λ x. x.0) xs)))
same_arms [] = refl
same_arms (x ∷ xs) = ap₂ Statements x.1 (same_arms xs)

statement_node : (y : Stmt-F ((x : Arm) × SameArm x) ((x : Stmt) × SameStatement x))
    → SameStatement (roll-Stmt (map-Stmt ((x : Arm) × SameArm x) ((x : Stmt) × SameStatement x) Arm Stmt (λ x. x.0) (λ x. x.0) y))
statement_node (Stmt-F.Block at l xs) =
    statement_layer (Stmt-F.Block at l (map (λ x. x.0) xs)) (ap (Block no_place (option_map unplaced_name l)) (same_statements xs))
statement_node (Stmt-F.If at x y) = statement_layer (Stmt-F.If at x y.0) (ap₂ (If no_place) (same_expression x) y.1)
statement_node (Stmt-F.IfElse at x y z) = statement_layer (Stmt-F.IfElse at x y.0 z.0) (ap₃ (IfElse no_place) (same_expression x) y.1 z.1)
statement_node (Stmt-F.Case at which x ys) =
    statement_layer (Stmt-F.Case at which x (map (λ x. x.0) ys)) (ap₂ (Case no_place which) (same_expression x) (same_arms ys))
statement_node (Stmt-F.Assign x y) = statement_layer (Stmt-F.Assign x y) (ap₂ Assignment (same_target x) (same_expression y))
statement_node (Stmt-F.Empty at) = statement_layer (Stmt-F.Empty at) refl

arm_node : (y : Arm-F ((x : Arm) × SameArm x) ((x : Stmt) × SameStatement x))
    → SameArm (roll-Arm (map-Arm ((x : Arm) × SameArm x) ((x : Stmt) × SameStatement x) Arm Stmt (λ x. x.0) (λ x. x.0) y))
arm_node (Arm-F.Default at x) = arm_layer (Arm-F.Default at x.0) (ap (Default no_place) x.1)
arm_node (Arm-F.Match ls x) =
    arm_layer (Arm-F.Match ls x.0) (ap₂ Match (map_so label_of bare_label unplaced_label same_label ls) x.1)

pub same_statement : (x : Stmt) → statement_of (bare_statement x) ≡ unplaced_statement (statement_of x)
same_statement x = ind-Stmt (SameArm) (SameStatement) (λ x y is. subst (λ z. SameArm (roll-Arm z)) is (arm_node y))
    (λ x y is. subst (λ z. SameStatement (roll-Stmt z)) is (statement_node y)) x
