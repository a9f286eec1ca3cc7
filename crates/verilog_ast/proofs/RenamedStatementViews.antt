-- What statements under other names are as plain data is what they are, under these.
use Rattle.std.proofs.Common.{◌≡◌, ◌∙◌, List, [], ◌∷◌, map, refl, sym, ap, ap₂, subst}
use Rattle.std.specs.Option.{option_map}
use Rattle.ls_text.specs.declared.name_id.NameId.{NameId}
use Rattle.ls_text.proofs.Lists.{map_so}
use Rattle.verilog_ast.specs.declared.label.Label.{Label}
use Rattle.verilog_ast.specs.declared.label.Label.TheVariants as label
use Rattle.verilog_ast.specs.declared.statement.Stmt.{Stmt, roll-Stmt}
use Rattle.verilog_ast.specs.declared.statement.Stmt.TheVariants as s
use Rattle.verilog_ast.specs.declared.statement.Arm.{Arm, roll-Arm}
use Rattle.verilog_ast.specs.declared.statement.Arm.TheVariants as a
use Rattle.verilog_ast.specs.declared.statement.Arm.TheOpen.{Stmt-F, Arm-F}
use Rattle.verilog_ast.specs.declared.statement.Arm.TheFolds.{fold-roll-Stmt, fold-roll-Arm, ind-Stmt, map-Stmt, map-Arm}
use Rattle.verilog_ast.specs.Statements.{Compared, Statement, Block, If, IfElse, Case, Assignment, Default, Match, Statements}
use Rattle.verilog_ast.specs.Renamed.{renamed_identifier, renamed_expression, renamed_target, renamed_label, statement_step, arm_step, renamed_statement, renamed_arm}
use Rattle.verilog_ast.specs.Views.{label_of, statements_of, statement_view, arm_view, statement_of, arm_of}
use Rattle.verilog_ast.specs.Renaming.{label_as, statement_as}
use Rattle.verilog_ast.proofs.Equal.{ap₃}
use Rattle.verilog_ast.proofs.RenamedViews.{same_expression, same_target}

same_label : (f : NameId → NameId) (x : Label) → label_of (renamed_label f x) ≡ label_as f (label_of x)
same_label f (label.Pattern at x) = refl
same_label f (label.Expr x) = ap Compared (same_expression f x)

abbrev SameStatement : (NameId → NameId) → Stmt → Type 0
SameStatement f x = statement_of (renamed_statement f x) ≡ statement_as f (statement_of x)

abbrev SameArm : (NameId → NameId) → Arm → Type 0
SameArm f x = arm_of (renamed_arm f x) ≡ statement_as f (arm_of x)

-- ---- layers

abbrev named_statement : (NameId → NameId) → Stmt-F Arm Stmt → Stmt-F Arm Stmt
named_statement f (Stmt-F.Block at l xs) = Stmt-F.Block at (option_map (renamed_identifier f) l) xs
named_statement f (Stmt-F.If at x y) = Stmt-F.If at (renamed_expression f x) y
named_statement f (Stmt-F.IfElse at x y z) = Stmt-F.IfElse at (renamed_expression f x) y z
named_statement f (Stmt-F.Case at which x ys) = Stmt-F.Case at which (renamed_expression f x) ys
named_statement f (Stmt-F.Assign x y) = Stmt-F.Assign (renamed_target f x) (renamed_expression f y)
named_statement f (Stmt-F.Empty at) = Stmt-F.Empty at

statement_rolls : (f : NameId → NameId) (l : Stmt-F Arm Stmt) → roll-Stmt (named_statement f l) ≡ statement_step f l
statement_rolls f (Stmt-F.Block at l xs) = s.rolls-Block at (option_map (renamed_identifier f) l) xs
statement_rolls f (Stmt-F.If at x y) = s.rolls-If at (renamed_expression f x) y
statement_rolls f (Stmt-F.IfElse at x y z) = s.rolls-IfElse at (renamed_expression f x) y z
statement_rolls f (Stmt-F.Case at which x ys) = s.rolls-Case at which (renamed_expression f x) ys
statement_rolls f (Stmt-F.Assign x y) = s.rolls-Assign (renamed_target f x) (renamed_expression f y)
statement_rolls f (Stmt-F.Empty at) = s.rolls-Empty at

abbrev named_arm : (NameId → NameId) → Arm-F Arm Stmt → Arm-F Arm Stmt
named_arm f (Arm-F.Default at x) = Arm-F.Default at x
named_arm f (Arm-F.Match ls x) = Arm-F.Match (map (renamed_label f) ls) x

arm_rolls : (f : NameId → NameId) (l : Arm-F Arm Stmt) → roll-Arm (named_arm f l) ≡ arm_step f l
arm_rolls f (Arm-F.Default at x) = a.rolls-Default at x
arm_rolls f (Arm-F.Match ls x) = a.rolls-Match (map (renamed_label f) ls) x

abbrev renamed_layer : (NameId → NameId) → Stmt-F Arm Stmt → Stmt-F Arm Stmt
renamed_layer f l = named_statement f (map-Stmt Arm Stmt Arm Stmt (renamed_arm f) (renamed_statement f) l)

abbrev viewed_layer : Stmt-F Arm Stmt → Statement
viewed_layer l = statement_view (map-Stmt Arm Stmt Statement Statement arm_of statement_of l)

statement_layer : (f : NameId → NameId) (l : Stmt-F Arm Stmt) → viewed_layer (renamed_layer f l) ≡ statement_as f (viewed_layer l) → SameStatement f (roll-Stmt l)
statement_layer f l h =
    ap statement_of (fold-roll-Stmt Arm Stmt (arm_step f) (statement_step f) l
    ∙ sym (statement_rolls f (map-Stmt Arm Stmt Arm Stmt (renamed_arm f) (renamed_statement f) l)))
    ∙ fold-roll-Stmt Statement Statement arm_view statement_view (renamed_layer f l)
    ∙ h
    ∙ ap (statement_as f) (sym (fold-roll-Stmt Statement Statement arm_view statement_view l))

abbrev renamed_arm_layer : (NameId → NameId) → Arm-F Arm Stmt → Arm-F Arm Stmt
renamed_arm_layer f l = named_arm f (map-Arm Arm Stmt Arm Stmt (renamed_arm f) (renamed_statement f) l)

abbrev viewed_arm_layer : Arm-F Arm Stmt → Statement
viewed_arm_layer l = arm_view (map-Arm Arm Stmt Statement Statement arm_of statement_of l)

arm_layer : (f : NameId → NameId) (l : Arm-F Arm Stmt) → viewed_arm_layer (renamed_arm_layer f l) ≡ statement_as f (viewed_arm_layer l) → SameArm f (roll-Arm l)
arm_layer f l h =
    ap arm_of (fold-roll-Arm Arm Stmt (arm_step f) (statement_step f) l
    ∙ sym (arm_rolls f (map-Arm Arm Stmt Arm Stmt (renamed_arm f) (renamed_statement f) l)))
    ∙ fold-roll-Arm Statement Statement arm_view statement_view (renamed_arm_layer f l)
    ∙ h
    ∙ ap (statement_as f) (sym (fold-roll-Arm Statement Statement arm_view statement_view l))

-- ---- nodes

same_statements : (f : NameId → NameId) (xs : List ((x : Stmt) × SameStatement f x))
    → statements_of (map statement_of (map (renamed_statement f) (map (λ x. x.0) xs))) ≡ statement_as f (statements_of (map statement_of (map (λ x. x.0) xs)))
same_statements f [] = refl
same_statements f (x ∷ xs) = ap₂ Statements x.1 (same_statements f xs)

same_arms : (f : NameId → NameId) (xs : List ((x : Arm) × SameArm f x))
    → statements_of (map arm_of (map (renamed_arm f) (map (λ x. x.0) xs))) ≡ statement_as f (statements_of (map arm_of (map (λ x. x.0) xs)))
same_arms f [] = refl
same_arms f (x ∷ xs) = ap₂ Statements x.1 (same_arms f xs)

statement_node : (f : NameId → NameId) (y : Stmt-F ((x : Arm) × SameArm f x) ((x : Stmt) × SameStatement f x))
    → SameStatement f (roll-Stmt (map-Stmt ((x : Arm) × SameArm f x) ((x : Stmt) × SameStatement f x) Arm Stmt (λ x. x.0) (λ x. x.0) y))
statement_node f (Stmt-F.Block at l xs) =
    statement_layer f (Stmt-F.Block at l (map (λ x. x.0) xs)) (ap (Block at (option_map (renamed_identifier f) l)) (same_statements f xs))
statement_node f (Stmt-F.If at x y) = statement_layer f (Stmt-F.If at x y.0) (ap₂ (If at) (same_expression f x) y.1)
statement_node f (Stmt-F.IfElse at x y z) = statement_layer f (Stmt-F.IfElse at x y.0 z.0) (ap₃ (IfElse at) (same_expression f x) y.1 z.1)
statement_node f (Stmt-F.Case at which x ys) =
    statement_layer f (Stmt-F.Case at which x (map (λ x. x.0) ys)) (ap₂ (Case at which) (same_expression f x) (same_arms f ys))
statement_node f (Stmt-F.Assign x y) = statement_layer f (Stmt-F.Assign x y) (ap₂ Assignment (same_target f x) (same_expression f y))
statement_node f (Stmt-F.Empty at) = statement_layer f (Stmt-F.Empty at) refl

arm_node : (f : NameId → NameId) (y : Arm-F ((x : Arm) × SameArm f x) ((x : Stmt) × SameStatement f x))
    → SameArm f (roll-Arm (map-Arm ((x : Arm) × SameArm f x) ((x : Stmt) × SameStatement f x) Arm Stmt (λ x. x.0) (λ x. x.0) y))
arm_node f (Arm-F.Default at x) = arm_layer f (Arm-F.Default at x.0) (ap (Default at) x.1)
arm_node f (Arm-F.Match ls x) =
    arm_layer f (Arm-F.Match ls x.0) (ap₂ Match (map_so label_of (renamed_label f) (label_as f) (same_label f) ls) x.1)

pub same_statement : (f : NameId → NameId) (x : Stmt) → statement_of (renamed_statement f x) ≡ statement_as f (statement_of x)
same_statement f x = ind-Stmt (SameArm f) (SameStatement f) (λ x y is. subst (λ z. SameArm f (roll-Arm z)) is (arm_node f y))
    (λ x y is. subst (λ z. SameStatement f (roll-Stmt z)) is (statement_node f y)) x
