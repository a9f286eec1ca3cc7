-- What a tree under other names is as plain data is what the tree is, under these.
use Rattle.std.proofs.Common.{◌≡◌, ◌∙◌, List, [], ◌∷◌, Option, Some, None, map, refl, sym, ap, ap₂, subst}
use Rattle.std.specs.Option.{option_map}
use Rattle.ls_text.specs.declared.name_id.NameId.{NameId}
use Rattle.verilog_ast.specs.declared.expression.Expr.{Expr, roll-Expr}
use Rattle.verilog_ast.specs.declared.expression.Expr.TheOpen.{Expr-F, Reference-F}
use Rattle.verilog_ast.specs.declared.expression.Expr.TheFolds.{fold-roll-Expr, fold-roll-Reference, ind-Expr, ind-Reference, map-Expr, map-Reference}
use Rattle.verilog_ast.specs.declared.expression.Expr.TheVariants as e
use Rattle.verilog_ast.specs.declared.expression.Reference.{Reference, roll-Reference}
use Rattle.verilog_ast.specs.declared.expression.Reference.TheVariants as r
use Rattle.verilog_ast.specs.declared.target.Lhs.{Lhs, roll-Lhs}
use Rattle.verilog_ast.specs.declared.target.Lhs.TheOpen.{Lhs-F}
use Rattle.verilog_ast.specs.declared.target.Lhs.TheFolds.{fold-roll-Lhs, ind-Lhs, map-Lhs}
use Rattle.verilog_ast.specs.declared.target.Lhs.TheVariants as t
use Rattle.verilog_ast.specs.Expressions.{Expression, Target, Unary, Binary, Conditional, Concatenation, Replication, Bracketed, Parts, BitSelect, PartSelect, UpwardSelect, DownwardSelect, Reference as Single, Joined, Targets}
use Rattle.verilog_ast.specs.Renamed.{renamed_identifier, reference_step, expression_step, renamed_reference, renamed_expression, target_step, renamed_target}
use Rattle.verilog_ast.specs.Views.{parts_of, expression_view, reference_view, expression_of, reference_of, targets_of, target_view, target_of}
use Rattle.verilog_ast.specs.Renaming.{expression_as, target_as}
use Rattle.verilog_ast.proofs.Equal.{ap₃}

-- what holds of an element holds of what may be absent
pub same_option : {A B : Type 0} (view : A → B) (f : A → A) (g : B → B) → ((x : A) → view (f x) ≡ g (view x)) → (x : Option A)
    → option_map view (option_map f x) ≡ option_map g (option_map view x)
same_option view f g same None = refl
same_option view f g same (Some x) = ap (λ y. Some y) (same x)

-- ---- expressions

abbrev SameExpression : (NameId → NameId) → Expr → Type 0
SameExpression f x = expression_of (renamed_expression f x) ≡ expression_as f (expression_of x)

abbrev SameReference : (NameId → NameId) → Reference → Type 0
SameReference f x = reference_of (renamed_reference f x) ≡ expression_as f (reference_of x)

-- a step makes a node of its layer
expression_rolls : (l : Expr-F Expr Reference) → roll-Expr l ≡ expression_step l
expression_rolls (Expr-F.Number at x) = e.rolls-Number at x
expression_rolls (Expr-F.Read x) = e.rolls-Read x
expression_rolls (Expr-F.Unary at op x) = e.rolls-Unary at op x
expression_rolls (Expr-F.Binary op x y) = e.rolls-Binary op x y
expression_rolls (Expr-F.Conditional x y z) = e.rolls-Conditional x y z
expression_rolls (Expr-F.Concatenation at xs) = e.rolls-Concatenation at xs
expression_rolls (Expr-F.Replication at x ys) = e.rolls-Replication at x ys
expression_rolls (Expr-F.Bracketed at x) = e.rolls-Bracketed at x

abbrev named_layer : (NameId → NameId) → Reference-F Expr Reference → Reference-F Expr Reference
named_layer f (Reference-F.Whole n) = Reference-F.Whole (renamed_identifier f n)
named_layer f (Reference-F.Bit n x) = Reference-F.Bit (renamed_identifier f n) x
named_layer f (Reference-F.Part n x y) = Reference-F.Part (renamed_identifier f n) x y
named_layer f (Reference-F.Upward n x y) = Reference-F.Upward (renamed_identifier f n) x y
named_layer f (Reference-F.Downward n x y) = Reference-F.Downward (renamed_identifier f n) x y

reference_rolls : (f : NameId → NameId) (l : Reference-F Expr Reference) → roll-Reference (named_layer f l) ≡ reference_step f l
reference_rolls f (Reference-F.Whole n) = r.rolls-Whole (renamed_identifier f n)
reference_rolls f (Reference-F.Bit n x) = r.rolls-Bit (renamed_identifier f n) x
reference_rolls f (Reference-F.Part n x y) = r.rolls-Part (renamed_identifier f n) x y
reference_rolls f (Reference-F.Upward n x y) = r.rolls-Upward (renamed_identifier f n) x y
reference_rolls f (Reference-F.Downward n x y) = r.rolls-Downward (renamed_identifier f n) x y

abbrev renamed_layer : (NameId → NameId) → Expr-F Expr Reference → Expr-F Expr Reference
renamed_layer f l = map-Expr Expr Reference Expr Reference (renamed_expression f) (renamed_reference f) l

abbrev viewed_layer : Expr-F Expr Reference → Expr-F Expression Expression
viewed_layer l = map-Expr Expr Reference Expression Expression expression_of reference_of l

abbrev renamed_select : (NameId → NameId) → Reference-F Expr Reference → Reference-F Expr Reference
renamed_select f l = map-Reference Expr Reference Expr Reference (renamed_expression f) (renamed_reference f) l

abbrev viewed_select : Reference-F Expr Reference → Reference-F Expression Expression
viewed_select l = map-Reference Expr Reference Expression Expression expression_of reference_of l

-- what is left to show of a node is that of its layer
expression_layer : (f : NameId → NameId) (l : Expr-F Expr Reference)
    → expression_view (viewed_layer (renamed_layer f l)) ≡ expression_as f (expression_view (viewed_layer l)) → SameExpression f (roll-Expr l)
expression_layer f l h =
    ap expression_of (fold-roll-Expr Expr Reference expression_step (reference_step f) l ∙ sym (expression_rolls (renamed_layer f l)))
    ∙ fold-roll-Expr Expression Expression expression_view reference_view (renamed_layer f l)
    ∙ h
    ∙ ap (expression_as f) (sym (fold-roll-Expr Expression Expression expression_view reference_view l))

reference_layer : (f : NameId → NameId) (l : Reference-F Expr Reference)
    → reference_view (viewed_select (named_layer f (renamed_select f l))) ≡ expression_as f (reference_view (viewed_select l)) → SameReference f (roll-Reference l)
reference_layer f l h =
    ap reference_of (fold-roll-Reference Expr Reference expression_step (reference_step f) l ∙ sym (reference_rolls f (renamed_select f l)))
    ∙ fold-roll-Reference Expression Expression expression_view reference_view (named_layer f (renamed_select f l))
    ∙ h
    ∙ ap (expression_as f) (sym (fold-roll-Reference Expression Expression expression_view reference_view l))

same_parts : (f : NameId → NameId) (xs : List ((x : Expr) × SameExpression f x))
    → parts_of (map expression_of (map (renamed_expression f) (map (λ x. x.0) xs))) ≡ expression_as f (parts_of (map expression_of (map (λ x. x.0) xs)))
same_parts f [] = refl
same_parts f (x ∷ xs) = ap₂ Parts x.1 (same_parts f xs)

expression_node : (f : NameId → NameId) (y : Expr-F ((x : Expr) × SameExpression f x) ((x : Reference) × SameReference f x))
    → SameExpression f (roll-Expr (map-Expr ((x : Expr) × SameExpression f x) ((x : Reference) × SameReference f x) Expr Reference (λ x. x.0) (λ x. x.0) y))
expression_node f (Expr-F.Number at x) = expression_layer f (Expr-F.Number at x) refl
expression_node f (Expr-F.Read x) = expression_layer f (Expr-F.Read x.0) x.1
expression_node f (Expr-F.Unary at op x) = expression_layer f (Expr-F.Unary at op x.0) (ap (Unary at op) x.1)
expression_node f (Expr-F.Binary op x y) = expression_layer f (Expr-F.Binary op x.0 y.0) (ap₂ (Binary op) x.1 y.1)
expression_node f (Expr-F.Conditional x y z) = expression_layer f (Expr-F.Conditional x.0 y.0 z.0) (ap₃ Conditional x.1 y.1 z.1)
expression_node f (Expr-F.Concatenation at xs) =
    expression_layer f (Expr-F.Concatenation at (map (λ x. x.0) xs)) (ap (Concatenation at) (same_parts f xs))
expression_node f (Expr-F.Replication at x ys) =
    expression_layer f (Expr-F.Replication at x.0 (map (λ x. x.0) ys)) (ap₂ (Replication at) x.1 (same_parts f ys))
expression_node f (Expr-F.Bracketed at x) = expression_layer f (Expr-F.Bracketed at x.0) (ap (Bracketed at) x.1)

reference_node : (f : NameId → NameId) (y : Reference-F ((x : Expr) × SameExpression f x) ((x : Reference) × SameReference f x))
    → SameReference f (roll-Reference (map-Reference ((x : Expr) × SameExpression f x) ((x : Reference) × SameReference f x) Expr Reference (λ x. x.0) (λ x. x.0) y))
reference_node f (Reference-F.Whole n) = reference_layer f (Reference-F.Whole n) refl
reference_node f (Reference-F.Bit n x) = reference_layer f (Reference-F.Bit n x.0) (ap (BitSelect (renamed_identifier f n)) x.1)
reference_node f (Reference-F.Part n x y) = reference_layer f (Reference-F.Part n x.0 y.0) (ap₂ (PartSelect (renamed_identifier f n)) x.1 y.1)
reference_node f (Reference-F.Upward n x y) = reference_layer f (Reference-F.Upward n x.0 y.0) (ap₂ (UpwardSelect (renamed_identifier f n)) x.1 y.1)
reference_node f (Reference-F.Downward n x y) = reference_layer f (Reference-F.Downward n x.0 y.0) (ap₂ (DownwardSelect (renamed_identifier f n)) x.1 y.1)

pub same_expression : (f : NameId → NameId) (x : Expr) → expression_of (renamed_expression f x) ≡ expression_as f (expression_of x)
same_expression f x = ind-Expr (SameExpression f) (SameReference f) (λ x y is. subst (λ z. SameExpression f (roll-Expr z)) is (expression_node f y))
    (λ x y is. subst (λ z. SameReference f (roll-Reference z)) is (reference_node f y)) x

pub same_reference : (f : NameId → NameId) (x : Reference) → reference_of (renamed_reference f x) ≡ expression_as f (reference_of x)
same_reference f x = ind-Reference (SameExpression f) (SameReference f) (λ x y is. subst (λ z. SameExpression f (roll-Expr z)) is (expression_node f y))
    (λ x y is. subst (λ z. SameReference f (roll-Reference z)) is (reference_node f y)) x

-- ---- targets

abbrev SameTarget : (NameId → NameId) → Lhs → Type 0
SameTarget f x = target_of (renamed_target f x) ≡ target_as f (target_of x)

abbrev named_target : (NameId → NameId) → Lhs-F Lhs → Lhs-F Lhs
named_target f (Lhs-F.Reference x) = Lhs-F.Reference (renamed_reference f x)
named_target f (Lhs-F.Concatenation at xs) = Lhs-F.Concatenation at xs

target_rolls : (f : NameId → NameId) (l : Lhs-F Lhs) → roll-Lhs (named_target f l) ≡ target_step f l
target_rolls f (Lhs-F.Reference x) = t.rolls-Reference (renamed_reference f x)
target_rolls f (Lhs-F.Concatenation at xs) = t.rolls-Concatenation at xs

target_layer : (f : NameId → NameId) (l : Lhs-F Lhs)
    → target_view (map-Lhs Lhs Target target_of (named_target f (map-Lhs Lhs Lhs (renamed_target f) l))) ≡ target_as f (target_view (map-Lhs Lhs Target target_of l))
    → SameTarget f (roll-Lhs l)
target_layer f l h =
    ap target_of (fold-roll-Lhs Lhs (target_step f) l ∙ sym (target_rolls f (map-Lhs Lhs Lhs (renamed_target f) l)))
    ∙ fold-roll-Lhs Target target_view (named_target f (map-Lhs Lhs Lhs (renamed_target f) l))
    ∙ h
    ∙ ap (target_as f) (sym (fold-roll-Lhs Target target_view l))

same_targets : (f : NameId → NameId) (xs : List ((x : Lhs) × SameTarget f x))
    → targets_of (map target_of (map (renamed_target f) (map (λ x. x.0) xs))) ≡ target_as f (targets_of (map target_of (map (λ x. x.0) xs)))
same_targets f [] = refl
same_targets f (x ∷ xs) = ap₂ Targets x.1 (same_targets f xs)

target_node : (f : NameId → NameId) (y : Lhs-F ((x : Lhs) × SameTarget f x)) → SameTarget f (roll-Lhs (map-Lhs ((x : Lhs) × SameTarget f x) Lhs (λ x. x.0) y))
target_node f (Lhs-F.Reference x) = target_layer f (Lhs-F.Reference x) (ap Single (same_reference f x))
target_node f (Lhs-F.Concatenation at xs) = target_layer f (Lhs-F.Concatenation at (map (λ x. x.0) xs)) (ap (Joined at) (same_targets f xs))

pub same_target : (f : NameId → NameId) (x : Lhs) → target_of (renamed_target f x) ≡ target_as f (target_of x)
same_target f x = ind-Lhs (SameTarget f) (λ x y is. subst (λ z. SameTarget f (roll-Lhs z)) is (target_node f y)) x
