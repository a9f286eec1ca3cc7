-- What a tree without places is as plain data is what the tree is, without them.
use Rattle.std.proofs.Common.{◌≡◌, ◌∙◌, List, [], ◌∷◌, map, refl, sym, ap, ap₂, subst}
use Rattle.verilog_ast.specs.Places.{no_place}
use Rattle.verilog_ast.specs.declared.expression.Expr.{Expr, roll-Expr}
use Rattle.verilog_ast.specs.declared.expression.Expr.TheOpen.{Expr-F, Reference-F}
use Rattle.verilog_ast.specs.declared.expression.Expr.TheFolds.{fold-roll-Expr, fold-roll-Reference, ind-Expr, ind-Reference, map-Expr, map-Reference}
use Rattle.verilog_ast.specs.declared.expression.Expr.TheVariants as e
use Rattle.verilog_ast.specs.declared.expression.Reference.{Reference, roll-Reference}
use Rattle.verilog_ast.specs.declared.expression.Reference.TheVariants as r
use Rattle.verilog_ast.specs.declared.target.Lhs.{Lhs, roll-Lhs}
use Rattle.verilog_ast.specs.declared.target.Lhs.TheOpen.{Lhs-F}
use Rattle.verilog_ast.specs.declared.target.Lhs.TheFolds.{fold-roll-Lhs, ind-Lhs, map-Lhs}
use Rattle.verilog_ast.specs.declared.target.Lhs.TheVariants as t
use Rattle.verilog_ast.specs.Expressions.{Expression, Target, Unary, Binary, Conditional, Concatenation, Replication, Bracketed, Parts, BitSelect, PartSelect, UpwardSelect, DownwardSelect, Reference as Single, Joined, Targets}
use Rattle.version_swap.proofs.BareForms.{reference_step, expression_step, bare_reference, bare_expression, target_step, bare_target}
use Rattle.verilog_ast.specs.Views.{parts_of, expression_view, reference_view, expression_of, reference_of, targets_of, target_view, target_of}
use Rattle.version_swap.specs.Unplaced.{unplaced_name, unplaced_expression, unplaced_target}
use Rattle.verilog_ast.proofs.Equal.{ap₃}

-- ---- expressions

abbrev SameExpression : Expr → Type 0
SameExpression x = expression_of (bare_expression x) ≡ unplaced_expression (expression_of x)

abbrev SameReference : Reference → Type 0
SameReference x = reference_of (bare_reference x) ≡ unplaced_expression (reference_of x)

abbrev placeless_expression : Expr-F Expr Reference → Expr-F Expr Reference
placeless_expression (Expr-F.Number at x) = Expr-F.Number no_place x
placeless_expression (Expr-F.Read x) = Expr-F.Read x
placeless_expression (Expr-F.Unary at op x) = Expr-F.Unary no_place op x
placeless_expression (Expr-F.Binary op x y) = Expr-F.Binary op x y
placeless_expression (Expr-F.Conditional x y z) = Expr-F.Conditional x y z
placeless_expression (Expr-F.Concatenation at xs) = Expr-F.Concatenation no_place xs
placeless_expression (Expr-F.Replication at x ys) = Expr-F.Replication no_place x ys
placeless_expression (Expr-F.Bracketed at x) = Expr-F.Bracketed no_place x

-- a step makes a node of its layer
expression_rolls : (l : Expr-F Expr Reference) → roll-Expr (placeless_expression l) ≡ expression_step l
expression_rolls (Expr-F.Number at x) = e.rolls-Number no_place x
expression_rolls (Expr-F.Read x) = e.rolls-Read x
expression_rolls (Expr-F.Unary at op x) = e.rolls-Unary no_place op x
expression_rolls (Expr-F.Binary op x y) = e.rolls-Binary op x y
expression_rolls (Expr-F.Conditional x y z) = e.rolls-Conditional x y z
expression_rolls (Expr-F.Concatenation at xs) = e.rolls-Concatenation no_place xs
expression_rolls (Expr-F.Replication at x ys) = e.rolls-Replication no_place x ys
expression_rolls (Expr-F.Bracketed at x) = e.rolls-Bracketed no_place x

abbrev placeless_reference : Reference-F Expr Reference → Reference-F Expr Reference
placeless_reference (Reference-F.Whole n) = Reference-F.Whole (unplaced_name n)
placeless_reference (Reference-F.Bit n x) = Reference-F.Bit (unplaced_name n) x
placeless_reference (Reference-F.Part n x y) = Reference-F.Part (unplaced_name n) x y
placeless_reference (Reference-F.Upward n x y) = Reference-F.Upward (unplaced_name n) x y
placeless_reference (Reference-F.Downward n x y) = Reference-F.Downward (unplaced_name n) x y

reference_rolls : (l : Reference-F Expr Reference) → roll-Reference (placeless_reference l) ≡ reference_step l
reference_rolls (Reference-F.Whole n) = r.rolls-Whole (unplaced_name n)
reference_rolls (Reference-F.Bit n x) = r.rolls-Bit (unplaced_name n) x
reference_rolls (Reference-F.Part n x y) = r.rolls-Part (unplaced_name n) x y
reference_rolls (Reference-F.Upward n x y) = r.rolls-Upward (unplaced_name n) x y
reference_rolls (Reference-F.Downward n x y) = r.rolls-Downward (unplaced_name n) x y

abbrev bare_layer : Expr-F Expr Reference → Expr-F Expr Reference
bare_layer l = placeless_expression (map-Expr Expr Reference Expr Reference bare_expression bare_reference l)

abbrev viewed_layer : Expr-F Expr Reference → Expr-F Expression Expression
viewed_layer l = map-Expr Expr Reference Expression Expression expression_of reference_of l

abbrev bare_select : Reference-F Expr Reference → Reference-F Expr Reference
bare_select l = map-Reference Expr Reference Expr Reference bare_expression bare_reference l

abbrev viewed_select : Reference-F Expr Reference → Reference-F Expression Expression
viewed_select l = map-Reference Expr Reference Expression Expression expression_of reference_of l

-- what is left to show of a node is that of its layer
expression_layer : (l : Expr-F Expr Reference)
    → expression_view (viewed_layer (bare_layer l)) ≡ unplaced_expression (expression_view (viewed_layer l)) → SameExpression (roll-Expr l)
expression_layer l h =
    ap expression_of (fold-roll-Expr Expr Reference expression_step reference_step l
    ∙ sym (expression_rolls (map-Expr Expr Reference Expr Reference bare_expression bare_reference l)))
    ∙ fold-roll-Expr Expression Expression expression_view reference_view (bare_layer l)
    ∙ h
    ∙ ap unplaced_expression (sym (fold-roll-Expr Expression Expression expression_view reference_view l))

reference_layer : (l : Reference-F Expr Reference)
    → reference_view (viewed_select (placeless_reference (bare_select l))) ≡ unplaced_expression (reference_view (viewed_select l))
    → SameReference (roll-Reference l)
reference_layer l h =
    ap reference_of (fold-roll-Reference Expr Reference expression_step reference_step l ∙ sym (reference_rolls (bare_select l)))
    ∙ fold-roll-Reference Expression Expression expression_view reference_view (placeless_reference (bare_select l))
    ∙ h
    ∙ ap unplaced_expression (sym (fold-roll-Reference Expression Expression expression_view reference_view l))

same_parts : (xs : List ((x : Expr) × SameExpression x))
    → parts_of (map expression_of (map bare_expression (map (λ x. x.0) xs))) ≡ unplaced_expression (parts_of (map expression_of (map (λ x. x.0) xs)))
same_parts [] = refl
same_parts (x ∷ xs) = ap₂ Parts x.1 (same_parts xs)

expression_node : (y : Expr-F ((x : Expr) × SameExpression x) ((x : Reference) × SameReference x))
    → SameExpression (roll-Expr (map-Expr ((x : Expr) × SameExpression x) ((x : Reference) × SameReference x) Expr Reference (λ x. x.0) (λ x. x.0) y))
expression_node (Expr-F.Number at x) = expression_layer (Expr-F.Number at x) refl
expression_node (Expr-F.Read x) = expression_layer (Expr-F.Read x.0) x.1
expression_node (Expr-F.Unary at op x) = expression_layer (Expr-F.Unary at op x.0) (ap (Unary no_place op) x.1)
expression_node (Expr-F.Binary op x y) = expression_layer (Expr-F.Binary op x.0 y.0) (ap₂ (Binary op) x.1 y.1)
expression_node (Expr-F.Conditional x y z) = expression_layer (Expr-F.Conditional x.0 y.0 z.0) (ap₃ Conditional x.1 y.1 z.1)
expression_node (Expr-F.Concatenation at xs) =
    expression_layer (Expr-F.Concatenation at (map (λ x. x.0) xs)) (ap (Concatenation no_place) (same_parts xs))
expression_node (Expr-F.Replication at x ys) =
    expression_layer (Expr-F.Replication at x.0 (map (λ x. x.0) ys)) (ap₂ (Replication no_place) x.1 (same_parts ys))
expression_node (Expr-F.Bracketed at x) = expression_layer (Expr-F.Bracketed at x.0) (ap (Bracketed no_place) x.1)

reference_node : (y : Reference-F ((x : Expr) × SameExpression x) ((x : Reference) × SameReference x))
    → SameReference (roll-Reference (map-Reference ((x : Expr) × SameExpression x) ((x : Reference) × SameReference x) Expr Reference (λ x. x.0)
    (λ x. x.0) y))
reference_node (Reference-F.Whole n) = reference_layer (Reference-F.Whole n) refl
reference_node (Reference-F.Bit n x) = reference_layer (Reference-F.Bit n x.0) (ap (BitSelect (unplaced_name n)) x.1)
reference_node (Reference-F.Part n x y) = reference_layer (Reference-F.Part n x.0 y.0) (ap₂ (PartSelect (unplaced_name n)) x.1 y.1)
reference_node (Reference-F.Upward n x y) = reference_layer (Reference-F.Upward n x.0 y.0) (ap₂ (UpwardSelect (unplaced_name n)) x.1 y.1)
reference_node (Reference-F.Downward n x y) = reference_layer (Reference-F.Downward n x.0 y.0) (ap₂ (DownwardSelect (unplaced_name n)) x.1 y.1)

pub same_expression : (x : Expr) → expression_of (bare_expression x) ≡ unplaced_expression (expression_of x)
same_expression x = ind-Expr (SameExpression) (SameReference) (λ x y is. subst (λ z. SameExpression (roll-Expr z)) is (expression_node y))
    (λ x y is. subst (λ z. SameReference (roll-Reference z)) is (reference_node y)) x

pub same_reference : (x : Reference) → reference_of (bare_reference x) ≡ unplaced_expression (reference_of x)
same_reference x = ind-Reference (SameExpression) (SameReference) (λ x y is. subst (λ z. SameExpression (roll-Expr z)) is (expression_node y))
    (λ x y is. subst (λ z. SameReference (roll-Reference z)) is (reference_node y)) x

-- ---- targets

abbrev SameTarget : Lhs → Type 0
SameTarget x = target_of (bare_target x) ≡ unplaced_target (target_of x)

abbrev placeless_target : Lhs-F Lhs → Lhs-F Lhs
placeless_target (Lhs-F.Reference x) = Lhs-F.Reference (bare_reference x)
placeless_target (Lhs-F.Concatenation at xs) = Lhs-F.Concatenation no_place xs

target_rolls : (l : Lhs-F Lhs) → roll-Lhs (placeless_target l) ≡ target_step l
target_rolls (Lhs-F.Reference x) = t.rolls-Reference (bare_reference x)
target_rolls (Lhs-F.Concatenation at xs) = t.rolls-Concatenation no_place xs

target_layer : (l : Lhs-F Lhs)
    → target_view (map-Lhs Lhs Target target_of (placeless_target (map-Lhs Lhs Lhs bare_target l))) ≡ unplaced_target (target_view
    (map-Lhs Lhs Target target_of l))
    → SameTarget (roll-Lhs l)
target_layer l h =
    ap target_of (fold-roll-Lhs Lhs target_step l ∙ sym (target_rolls (map-Lhs Lhs Lhs bare_target l)))
    ∙ fold-roll-Lhs Target target_view (placeless_target (map-Lhs Lhs Lhs bare_target l))
    ∙ h
    ∙ ap unplaced_target (sym (fold-roll-Lhs Target target_view l))

same_targets : (xs : List ((x : Lhs) × SameTarget x))
    → targets_of (map target_of (map bare_target (map (λ x. x.0) xs))) ≡ unplaced_target (targets_of (map target_of (map (λ x. x.0) xs)))
same_targets [] = refl
same_targets (x ∷ xs) = ap₂ Targets x.1 (same_targets xs)

target_node : (y : Lhs-F ((x : Lhs) × SameTarget x)) → SameTarget (roll-Lhs (map-Lhs ((x : Lhs) × SameTarget x) Lhs (λ x. x.0) y))
target_node (Lhs-F.Reference x) = target_layer (Lhs-F.Reference x) (ap Single (same_reference x))
target_node (Lhs-F.Concatenation at xs) = target_layer (Lhs-F.Concatenation at (map (λ x. x.0) xs)) (ap (Joined no_place) (same_targets xs))

pub same_target : (x : Lhs) → target_of (bare_target x) ≡ unplaced_target (target_of x)
same_target x = ind-Lhs (SameTarget) (λ x y is. subst (λ z. SameTarget (roll-Lhs z)) is (target_node y)) x
