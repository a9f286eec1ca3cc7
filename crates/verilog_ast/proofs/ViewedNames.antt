-- The names in a tree are those in what it is as plain data.
use Rattle.std.proofs.Common.{◌≡◌, ◌∙◌, List, [], ◌∷◌, ◌++◌, Option, Some, None, map, flat_map, refl, sym, ap, ap₂, subst}
use Rattle.std.specs.Option.{option_map}
use Rattle.ls_text.specs.declared.name_id.NameId.{NameId}
use Rattle.verilog_ast.specs.declared.expression.Expr.{Expr, roll-Expr}
use Rattle.verilog_ast.specs.declared.expression.Expr.TheOpen.{Expr-F, Reference-F}
use Rattle.verilog_ast.specs.declared.expression.Expr.TheFolds.{fold-roll-Expr, fold-roll-Reference, ind-Expr, ind-Reference, map-Expr, map-Reference}
use Rattle.verilog_ast.specs.declared.expression.Reference.{Reference, roll-Reference}
use Rattle.verilog_ast.specs.declared.target.Lhs.{Lhs, roll-Lhs}
use Rattle.verilog_ast.specs.declared.target.Lhs.TheOpen.{Lhs-F}
use Rattle.verilog_ast.specs.declared.target.Lhs.TheFolds.{fold-roll-Lhs, ind-Lhs, map-Lhs}
use Rattle.verilog_ast.specs.declared.label.Label.{Label}
use Rattle.verilog_ast.specs.declared.label.Label.TheVariants as label
use Rattle.verilog_ast.specs.declared.statement.Stmt.{Stmt, roll-Stmt}
use Rattle.verilog_ast.specs.declared.statement.Arm.{Arm, roll-Arm}
use Rattle.verilog_ast.specs.declared.statement.Arm.TheOpen.{Stmt-F, Arm-F}
use Rattle.verilog_ast.specs.declared.statement.Arm.TheFolds.{fold-roll-Stmt, fold-roll-Arm, ind-Stmt, map-Stmt, map-Arm}
use Rattle.verilog_ast.specs.Expressions.{Expression, Target}
use Rattle.verilog_ast.specs.Statements.{Statement}
use Rattle.verilog_ast.specs.Names.{joined, names_of_option, names_of_optional_label, expression_names, reference_names, names_of_expression, names_of_reference, target_names, names_of_target, names_of_label, statement_names, arm_names, names_of_statement, names_of_arm}
use Rattle.verilog_ast.specs.NamesWithin.{names_in_expression, names_in_target, names_in_label, names_in_statement}
use Rattle.verilog_ast.specs.Views.{parts_of, expression_view, reference_view, expression_of, reference_of, targets_of, target_view, target_of, label_of, statements_of, statement_view, arm_view, statement_of, arm_of}
use Rattle.verilog_ast.proofs.Equal.{ap₃}

-- what holds of each element holds of a list, and of what may be absent
pub all_named : {A B : Type 0} (view : A → B) (f : A → List NameId) (g : B → List NameId) → ((x : A) → f x ≡ g (view x)) → (xs : List A)
    → flat_map f xs ≡ flat_map g (map view xs)
all_named view f g same [] = refl
all_named view f g same (x ∷ xs) = ap₂ (λ y ys. y ++ ys) (same x) (all_named view f g same xs)

pub option_named : {A B : Type 0} (view : A → B) (f : A → List NameId) (g : B → List NameId) → ((x : A) → f x ≡ g (view x)) → (x : Option A)
    → names_of_option f x ≡ names_of_option g (option_map view x)
option_named view f g same None = refl
option_named view f g same (Some x) = same x

-- ---- expressions

abbrev Expressed : Expr → Type 0
Expressed x = names_of_expression x ≡ names_in_expression (expression_of x)

abbrev Referred : Reference → Type 0
Referred x = names_of_reference x ≡ names_in_expression (reference_of x)

abbrev named_layer : Expr-F Expr Reference → List NameId
named_layer l = expression_names (map-Expr Expr Reference (List NameId) (List NameId) names_of_expression names_of_reference l)

abbrev viewed_layer : Expr-F Expr Reference → Expression
viewed_layer l = expression_view (map-Expr Expr Reference Expression Expression expression_of reference_of l)

expression_layer : (l : Expr-F Expr Reference) → named_layer l ≡ names_in_expression (viewed_layer l) → Expressed (roll-Expr l)
expression_layer l h =
    fold-roll-Expr (List NameId) (List NameId) expression_names reference_names l
    ∙ h
    ∙ ap names_in_expression (sym (fold-roll-Expr Expression Expression expression_view reference_view l))

abbrev named_select : Reference-F Expr Reference → List NameId
named_select l = reference_names (map-Reference Expr Reference (List NameId) (List NameId) names_of_expression names_of_reference l)

abbrev viewed_select : Reference-F Expr Reference → Expression
viewed_select l = reference_view (map-Reference Expr Reference Expression Expression expression_of reference_of l)

reference_layer : (l : Reference-F Expr Reference) → named_select l ≡ names_in_expression (viewed_select l) → Referred (roll-Reference l)
reference_layer l h =
    fold-roll-Reference (List NameId) (List NameId) expression_names reference_names l
    ∙ h
    ∙ ap names_in_expression (sym (fold-roll-Reference Expression Expression expression_view reference_view l))

parts_named : (xs : List ((x : Expr) × Expressed x))
    → joined (map names_of_expression (map (λ x. x.0) xs)) ≡ names_in_expression (parts_of (map expression_of (map (λ x. x.0) xs)))
parts_named [] = refl
parts_named (x ∷ xs) = ap₂ (λ y ys. y ++ ys) x.1 (parts_named xs)

expression_node : (y : Expr-F ((x : Expr) × Expressed x) ((x : Reference) × Referred x))
    → Expressed (roll-Expr (map-Expr ((x : Expr) × Expressed x) ((x : Reference) × Referred x) Expr Reference (λ x. x.0) (λ x. x.0) y))
expression_node (Expr-F.Number at x) = expression_layer (Expr-F.Number at x) refl
expression_node (Expr-F.Read x) = expression_layer (Expr-F.Read x.0) x.1
expression_node (Expr-F.Unary at op x) = expression_layer (Expr-F.Unary at op x.0) x.1
expression_node (Expr-F.Binary op x y) = expression_layer (Expr-F.Binary op x.0 y.0) (ap₂ (λ a b. a ++ b) x.1 y.1)
expression_node (Expr-F.Conditional x y z) =
    expression_layer (Expr-F.Conditional x.0 y.0 z.0) (ap₃ (λ (a b c : List NameId). a ++ (b ++ c)) x.1 y.1 z.1)
expression_node (Expr-F.Concatenation at xs) = expression_layer (Expr-F.Concatenation at (map (λ x. x.0) xs)) (parts_named xs)
expression_node (Expr-F.Replication at x ys) =
    expression_layer (Expr-F.Replication at x.0 (map (λ x. x.0) ys)) (ap₂ (λ a b. a ++ b) x.1 (parts_named ys))
expression_node (Expr-F.Bracketed at x) = expression_layer (Expr-F.Bracketed at x.0) x.1

reference_node : (y : Reference-F ((x : Expr) × Expressed x) ((x : Reference) × Referred x))
    → Referred (roll-Reference (map-Reference ((x : Expr) × Expressed x) ((x : Reference) × Referred x) Expr Reference (λ x. x.0) (λ x. x.0) y))
reference_node (Reference-F.Whole n) = reference_layer (Reference-F.Whole n) refl
reference_node (Reference-F.Bit n x) = reference_layer (Reference-F.Bit n x.0) (ap (λ a. n.name ∷ a) x.1)
reference_node (Reference-F.Part n x y) = reference_layer (Reference-F.Part n x.0 y.0) (ap₂ (λ a b. n.name ∷ (a ++ b)) x.1 y.1)
reference_node (Reference-F.Upward n x y) = reference_layer (Reference-F.Upward n x.0 y.0) (ap₂ (λ a b. n.name ∷ (a ++ b)) x.1 y.1)
reference_node (Reference-F.Downward n x y) = reference_layer (Reference-F.Downward n x.0 y.0) (ap₂ (λ a b. n.name ∷ (a ++ b)) x.1 y.1)

pub expression_named : (x : Expr) → names_of_expression x ≡ names_in_expression (expression_of x)
expression_named x = ind-Expr Expressed Referred (λ x y is. subst (λ z. Expressed (roll-Expr z)) is (expression_node y))
    (λ x y is. subst (λ z. Referred (roll-Reference z)) is (reference_node y)) x

reference_named : (x : Reference) → names_of_reference x ≡ names_in_expression (reference_of x)
reference_named x = ind-Reference Expressed Referred (λ x y is. subst (λ z. Expressed (roll-Expr z)) is (expression_node y))
    (λ x y is. subst (λ z. Referred (roll-Reference z)) is (reference_node y)) x

-- ---- targets

abbrev Targeted : Lhs → Type 0
Targeted x = names_of_target x ≡ names_in_target (target_of x)

target_layer : (l : Lhs-F Lhs) → target_names (map-Lhs Lhs (List NameId) names_of_target l) ≡ names_in_target (target_view (map-Lhs Lhs Target target_of l))
    → Targeted (roll-Lhs l)
target_layer l h = fold-roll-Lhs (List NameId) target_names l ∙ h ∙ ap names_in_target (sym (fold-roll-Lhs Target target_view l))

targets_named : (xs : List ((x : Lhs) × Targeted x))
    → joined (map names_of_target (map (λ x. x.0) xs)) ≡ names_in_target (targets_of (map target_of (map (λ x. x.0) xs)))
targets_named [] = refl
targets_named (x ∷ xs) = ap₂ (λ y ys. y ++ ys) x.1 (targets_named xs)

target_node : (y : Lhs-F ((x : Lhs) × Targeted x)) → Targeted (roll-Lhs (map-Lhs ((x : Lhs) × Targeted x) Lhs (λ x. x.0) y))
target_node (Lhs-F.Reference x) = target_layer (Lhs-F.Reference x) (reference_named x)
target_node (Lhs-F.Concatenation at xs) = target_layer (Lhs-F.Concatenation at (map (λ x. x.0) xs)) (targets_named xs)

pub target_named : (x : Lhs) → names_of_target x ≡ names_in_target (target_of x)
target_named x = ind-Lhs Targeted (λ x y is. subst (λ z. Targeted (roll-Lhs z)) is (target_node y)) x

-- ---- statements

label_named : (x : Label) → names_of_label x ≡ names_in_label (label_of x)
label_named (label.Pattern at x) = refl
label_named (label.Expr x) = expression_named x

abbrev Stated : Stmt → Type 0
Stated x = names_of_statement x ≡ names_in_statement (statement_of x)

abbrev Armed : Arm → Type 0
Armed x = names_of_arm x ≡ names_in_statement (arm_of x)

statement_layer : (l : Stmt-F Arm Stmt)
    → statement_names (map-Stmt Arm Stmt (List NameId) (List NameId) names_of_arm names_of_statement l)
    ≡ names_in_statement (statement_view (map-Stmt Arm Stmt Statement Statement arm_of statement_of l))
    → Stated (roll-Stmt l)
statement_layer l h =
    fold-roll-Stmt (List NameId) (List NameId) arm_names statement_names l
    ∙ h
    ∙ ap names_in_statement (sym (fold-roll-Stmt Statement Statement arm_view statement_view l))

arm_layer : (l : Arm-F Arm Stmt)
    → arm_names (map-Arm Arm Stmt (List NameId) (List NameId) names_of_arm names_of_statement l)
    ≡ names_in_statement (arm_view (map-Arm Arm Stmt Statement Statement arm_of statement_of l))
    → Armed (roll-Arm l)
arm_layer l h =
    fold-roll-Arm (List NameId) (List NameId) arm_names statement_names l
    ∙ h
    ∙ ap names_in_statement (sym (fold-roll-Arm Statement Statement arm_view statement_view l))

statements_named : (xs : List ((x : Stmt) × Stated x))
    → joined (map names_of_statement (map (λ x. x.0) xs)) ≡ names_in_statement (statements_of (map statement_of (map (λ x. x.0) xs)))
statements_named [] = refl
statements_named (x ∷ xs) = ap₂ (λ y ys. y ++ ys) x.1 (statements_named xs)

arms_named : (xs : List ((x : Arm) × Armed x))
    → joined (map names_of_arm (map (λ x. x.0) xs)) ≡ names_in_statement (statements_of (map arm_of (map (λ x. x.0) xs)))
arms_named [] = refl
arms_named (x ∷ xs) = ap₂ (λ y ys. y ++ ys) x.1 (arms_named xs)

statement_node : (y : Stmt-F ((x : Arm) × Armed x) ((x : Stmt) × Stated x))
    → Stated (roll-Stmt (map-Stmt ((x : Arm) × Armed x) ((x : Stmt) × Stated x) Arm Stmt (λ x. x.0) (λ x. x.0) y))
statement_node (Stmt-F.Block at l xs) =
    statement_layer (Stmt-F.Block at l (map (λ x. x.0) xs)) (ap (λ a. names_of_optional_label l ++ a) (statements_named xs))
statement_node (Stmt-F.If at x y) = statement_layer (Stmt-F.If at x y.0) (ap₂ (λ a b. a ++ b) (expression_named x) y.1)
statement_node (Stmt-F.IfElse at x y z) =
    statement_layer (Stmt-F.IfElse at x y.0 z.0) (ap₃ (λ (a b c : List NameId). a ++ (b ++ c)) (expression_named x) y.1 z.1)
statement_node (Stmt-F.Case at which x ys) =
    statement_layer (Stmt-F.Case at which x (map (λ x. x.0) ys)) (ap₂ (λ a b. a ++ b) (expression_named x) (arms_named ys))
statement_node (Stmt-F.Assign x y) = statement_layer (Stmt-F.Assign x y) (ap₂ (λ a b. a ++ b) (target_named x) (expression_named y))
statement_node (Stmt-F.Empty at) = statement_layer (Stmt-F.Empty at) refl

arm_node : (y : Arm-F ((x : Arm) × Armed x) ((x : Stmt) × Stated x))
    → Armed (roll-Arm (map-Arm ((x : Arm) × Armed x) ((x : Stmt) × Stated x) Arm Stmt (λ x. x.0) (λ x. x.0) y))
arm_node (Arm-F.Default at x) = arm_layer (Arm-F.Default at x.0) x.1
arm_node (Arm-F.Match ls x) = arm_layer (Arm-F.Match ls x.0) (ap₂ (λ a b. a ++ b) (all_named label_of names_of_label names_in_label label_named ls) x.1)

pub statement_named : (x : Stmt) → names_of_statement x ≡ names_in_statement (statement_of x)
statement_named x = ind-Stmt Armed Stated (λ x y is. subst (λ z. Armed (roll-Arm z)) is (arm_node y))
    (λ x y is. subst (λ z. Stated (roll-Stmt z)) is (statement_node y)) x
