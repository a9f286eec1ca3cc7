-- Expressions and targets come back from the plain data that is their view, so a view loses nothing of them.
use Rattle.std.proofs.Common.{◌≡◌, ◌∙◌, List, [], ◌∷◌, map, refl, ap, ap₂, subst}
use Rattle.verilog_ast.specs.declared.expression.Expr.{Expr, roll-Expr}
use Rattle.verilog_ast.specs.declared.expression.Expr.TheOpen.{Expr-F, Reference-F}
use Rattle.verilog_ast.specs.declared.expression.Expr.TheFolds.{fold-roll-Expr, fold-roll-Reference, ind-Expr, ind-Reference, map-Expr, map-Reference}
use Rattle.verilog_ast.specs.declared.expression.Reference.{Reference, roll-Reference}
use Rattle.verilog_ast.specs.declared.target.Lhs.{Lhs, roll-Lhs}
use Rattle.verilog_ast.specs.declared.target.Lhs.TheOpen.{Lhs-F}
use Rattle.verilog_ast.specs.declared.target.Lhs.TheFolds.{fold-roll-Lhs, ind-Lhs, map-Lhs}
use Rattle.verilog_ast.specs.Expressions as v
use Rattle.verilog_ast.specs.Expressions.{Expression, Target}
use Rattle.verilog_ast.specs.Places.{no_place}
use Rattle.verilog_ast.specs.Views.{parts_of, expression_view, reference_view, expression_of, reference_of, targets_of, target_view, target_of}
use Rattle.verilog_ast.proofs.Equal.{ap₃}

-- ---- the way back; of what is no view it gives an empty concatenation

abbrev no_expression : Expr
no_expression = roll-Expr (Expr-F.Concatenation no_place [])

abbrev no_target : Lhs
no_target = roll-Lhs (Lhs-F.Concatenation no_place [])

abbrev mutual
  pub expression_back : Expression → Expr
  expression_back (v.Literal at x) = roll-Expr (Expr-F.Number at x)
  expression_back (v.Whole n) = roll-Expr (Expr-F.Read (roll-Reference (Reference-F.Whole n)))
  expression_back (v.BitSelect n x) = roll-Expr (Expr-F.Read (roll-Reference (Reference-F.Bit n (expression_back x))))
  expression_back (v.PartSelect n x y) = roll-Expr (Expr-F.Read (roll-Reference (Reference-F.Part n (expression_back x) (expression_back y))))
  expression_back (v.UpwardSelect n x y) = roll-Expr (Expr-F.Read (roll-Reference (Reference-F.Upward n (expression_back x) (expression_back y))))
  expression_back (v.DownwardSelect n x y) = roll-Expr (Expr-F.Read (roll-Reference (Reference-F.Downward n (expression_back x) (expression_back y))))
  expression_back (v.Unary at op x) = roll-Expr (Expr-F.Unary at op (expression_back x))
  expression_back (v.Binary op x y) = roll-Expr (Expr-F.Binary op (expression_back x) (expression_back y))
  expression_back (v.Conditional x y z) = roll-Expr (Expr-F.Conditional (expression_back x) (expression_back y) (expression_back z))
  expression_back (v.Concatenation at xs) = roll-Expr (Expr-F.Concatenation at (parts_back xs))
  expression_back (v.Replication at x ys) = roll-Expr (Expr-F.Replication at (expression_back x) (parts_back ys))
  expression_back (v.Bracketed at x) = roll-Expr (Expr-F.Bracketed at (expression_back x))
  expression_back v.NoPart = no_expression
  expression_back (v.Parts x xs) = no_expression

  parts_back : Expression → List Expr
  parts_back (v.Parts x xs) = expression_back x ∷ parts_back xs
  parts_back _ = []

-- the target that one name with its select is
abbrev single_back : Expression → Lhs
single_back (v.Whole n) = roll-Lhs (Lhs-F.Reference (roll-Reference (Reference-F.Whole n)))
single_back (v.BitSelect n x) = roll-Lhs (Lhs-F.Reference (roll-Reference (Reference-F.Bit n (expression_back x))))
single_back (v.PartSelect n x y) = roll-Lhs (Lhs-F.Reference (roll-Reference (Reference-F.Part n (expression_back x) (expression_back y))))
single_back (v.UpwardSelect n x y) = roll-Lhs (Lhs-F.Reference (roll-Reference (Reference-F.Upward n (expression_back x) (expression_back y))))
single_back (v.DownwardSelect n x y) = roll-Lhs (Lhs-F.Reference (roll-Reference (Reference-F.Downward n (expression_back x) (expression_back y))))
single_back _ = no_target

abbrev mutual
  pub target_back : Target → Lhs
  target_back (v.Reference x) = single_back x
  target_back (v.Joined at xs) = roll-Lhs (Lhs-F.Concatenation at (targets_back xs))
  target_back v.NoTarget = no_target
  target_back (v.Targets x xs) = no_target

  targets_back : Target → List Lhs
  targets_back (v.Targets x xs) = target_back x ∷ targets_back xs
  targets_back _ = []

-- ---- expressions

abbrev ComesBack : Expr → Type 0
ComesBack x = expression_back (expression_of x) ≡ x

-- a name with its select comes back as an expression, and as a target
record SelectBack (x : Reference) : Type 0 where
  pub read : expression_back (reference_of x) ≡ roll-Expr (Expr-F.Read x)
  pub target : single_back (reference_of x) ≡ roll-Lhs (Lhs-F.Reference x)

abbrev viewed_layer : Expr-F Expr Reference → Expr-F Expression Expression
viewed_layer l = map-Expr Expr Reference Expression Expression expression_of reference_of l

abbrev viewed_select : Reference-F Expr Reference → Expression
viewed_select l = reference_view (map-Reference Expr Reference Expression Expression expression_of reference_of l)

-- what is left to show of a node is that of its layer
expression_layer : (l : Expr-F Expr Reference) → expression_back (expression_view (viewed_layer l)) ≡ roll-Expr l → ComesBack (roll-Expr l)
expression_layer l h = ap expression_back (fold-roll-Expr Expression Expression expression_view reference_view l) ∙ h

reference_layer : (l : Reference-F Expr Reference) → expression_back (viewed_select l) ≡ roll-Expr (Expr-F.Read (roll-Reference l))
    → single_back (viewed_select l) ≡ roll-Lhs (Lhs-F.Reference (roll-Reference l)) → SelectBack (roll-Reference l)
reference_layer l h t = record {
  read = ap expression_back (fold-roll-Reference Expression Expression expression_view reference_view l) ∙ h;
  target = ap single_back (fold-roll-Reference Expression Expression expression_view reference_view l) ∙ t;
}

parts_come_back : (xs : List ((x : Expr) × ComesBack x)) → parts_back (parts_of (map expression_of (map (λ x. x.0) xs))) ≡ map (λ x. x.0) xs
parts_come_back [] = refl
parts_come_back (x ∷ xs) = ap₂ (λ (y : Expr) (ys : List Expr). y ∷ ys) x.1 (parts_come_back xs)

expression_node : (y : Expr-F ((x : Expr) × ComesBack x) ((x : Reference) × SelectBack x))
    → ComesBack (roll-Expr (map-Expr ((x : Expr) × ComesBack x) ((x : Reference) × SelectBack x) Expr Reference (λ x. x.0) (λ x. x.0) y))
expression_node (Expr-F.Number at x) = expression_layer (Expr-F.Number at x) refl
expression_node (Expr-F.Read x) = expression_layer (Expr-F.Read x.0) x.1.read
expression_node (Expr-F.Unary at op x) = expression_layer (Expr-F.Unary at op x.0) (ap (λ (a : Expr). roll-Expr (Expr-F.Unary at op a)) x.1)
expression_node (Expr-F.Binary op x y) =
    expression_layer (Expr-F.Binary op x.0 y.0) (ap₂ (λ (a b : Expr). roll-Expr (Expr-F.Binary op a b)) x.1 y.1)
expression_node (Expr-F.Conditional x y z) =
    expression_layer (Expr-F.Conditional x.0 y.0 z.0) (ap₃ (λ (a b c : Expr). roll-Expr (Expr-F.Conditional a b c)) x.1 y.1 z.1)
expression_node (Expr-F.Concatenation at xs) =
    expression_layer (Expr-F.Concatenation at (map (λ x. x.0) xs)) (ap (λ (bs : List Expr). roll-Expr (Expr-F.Concatenation at bs)) (parts_come_back xs))
expression_node (Expr-F.Replication at x ys) =
    expression_layer (Expr-F.Replication at x.0 (map (λ x. x.0) ys))
    (ap₂ (λ (a : Expr) (bs : List Expr). roll-Expr (Expr-F.Replication at a bs)) x.1 (parts_come_back ys))
expression_node (Expr-F.Bracketed at x) = expression_layer (Expr-F.Bracketed at x.0) (ap (λ (a : Expr). roll-Expr (Expr-F.Bracketed at a)) x.1)

-- as an expression, and as a target
abbrev read_of : Reference-F Expr Reference → Expr
read_of l = roll-Expr (Expr-F.Read (roll-Reference l))

abbrev written_of : Reference-F Expr Reference → Lhs
written_of l = roll-Lhs (Lhs-F.Reference (roll-Reference l))

reference_node : (y : Reference-F ((x : Expr) × ComesBack x) ((x : Reference) × SelectBack x))
    → SelectBack (roll-Reference (map-Reference ((x : Expr) × ComesBack x) ((x : Reference) × SelectBack x) Expr Reference (λ x. x.0) (λ x. x.0) y))
reference_node (Reference-F.Whole n) = reference_layer (Reference-F.Whole n) refl refl
reference_node (Reference-F.Bit n x) =
    reference_layer (Reference-F.Bit n x.0) (ap (λ (a : Expr). read_of (Reference-F.Bit n a)) x.1) (ap (λ (a : Expr). written_of (Reference-F.Bit n a)) x.1)
reference_node (Reference-F.Part n x y) =
    reference_layer (Reference-F.Part n x.0 y.0) (ap₂ (λ (a b : Expr). read_of (Reference-F.Part n a b)) x.1 y.1)
    (ap₂ (λ (a b : Expr). written_of (Reference-F.Part n a b)) x.1 y.1)
reference_node (Reference-F.Upward n x y) =
    reference_layer (Reference-F.Upward n x.0 y.0) (ap₂ (λ (a b : Expr). read_of (Reference-F.Upward n a b)) x.1 y.1)
    (ap₂ (λ (a b : Expr). written_of (Reference-F.Upward n a b)) x.1 y.1)
reference_node (Reference-F.Downward n x y) =
    reference_layer (Reference-F.Downward n x.0 y.0) (ap₂ (λ (a b : Expr). read_of (Reference-F.Downward n a b)) x.1 y.1)
    (ap₂ (λ (a b : Expr). written_of (Reference-F.Downward n a b)) x.1 y.1)

pub back_expression : (x : Expr) → expression_back (expression_of x) ≡ x
back_expression x = ind-Expr ComesBack SelectBack (λ x y is. subst (λ z. ComesBack (roll-Expr z)) is (expression_node y))
    (λ x y is. subst (λ z. SelectBack (roll-Reference z)) is (reference_node y)) x

back_select : (x : Reference) → SelectBack x
back_select x = ind-Reference ComesBack SelectBack (λ x y is. subst (λ z. ComesBack (roll-Expr z)) is (expression_node y))
    (λ x y is. subst (λ z. SelectBack (roll-Reference z)) is (reference_node y)) x

-- ---- targets

abbrev TargetBack : Lhs → Type 0
TargetBack x = target_back (target_of x) ≡ x

target_layer : (l : Lhs-F Lhs) → target_back (target_view (map-Lhs Lhs Target target_of l)) ≡ roll-Lhs l → TargetBack (roll-Lhs l)
target_layer l h = ap target_back (fold-roll-Lhs Target target_view l) ∙ h

targets_come_back : (xs : List ((x : Lhs) × TargetBack x)) → targets_back (targets_of (map target_of (map (λ x. x.0) xs))) ≡ map (λ x. x.0) xs
targets_come_back [] = refl
targets_come_back (x ∷ xs) = ap₂ (λ (y : Lhs) (ys : List Lhs). y ∷ ys) x.1 (targets_come_back xs)

target_node : (y : Lhs-F ((x : Lhs) × TargetBack x)) → TargetBack (roll-Lhs (map-Lhs ((x : Lhs) × TargetBack x) Lhs (λ x. x.0) y))
target_node (Lhs-F.Reference x) = target_layer (Lhs-F.Reference x) (back_select x).target
target_node (Lhs-F.Concatenation at xs) =
    target_layer (Lhs-F.Concatenation at (map (λ x. x.0) xs)) (ap (λ (bs : List Lhs). roll-Lhs (Lhs-F.Concatenation at bs)) (targets_come_back xs))

pub back_target : (x : Lhs) → target_back (target_of x) ≡ x
back_target x = ind-Lhs TargetBack (λ x y is. subst (λ z. TargetBack (roll-Lhs z)) is (target_node y)) x
