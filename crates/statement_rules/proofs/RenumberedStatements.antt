-- Statements and continuous assignments in a scope whose signals have other numbers: the same faults, and the sized form under these numbers.
use Rattle.std.proofs.Common.{◌≡◌, ℕ, max, Bool, false, ◌&&◌, List, [], ◌∷◌, ◌++◌, map, refl, ◌∙◌, ap, ap₂}
use Rattle.ls_text.proofs.Lists.{joined_so}
use Rattle.typed_ir.specs.Sized.{Sized}
use Rattle.typed_ir.specs.Stmts as s
use Rattle.typed_ir.specs.Stmts.{SizedTarget, SizedItem, SizedStmt, SizedArms}
use Rattle.verilog_ast.specs.Expressions.{Expression}
use Rattle.verilog_ast.specs.Items.{ContinuousAssignment}
use Rattle.verilog_ast.specs.Statements.{CaseLabel, DontCare, Compared, Statement, Block, If, IfElse, Case, Assignment, Null, Default, Match, NoStatement, Statements}
use Rattle.width_rules.specs.declared.due.Due.TheVariants.{AnyValue, ConstantOnly}
use Rattle.width_rules.specs.declared.writer.Writer.{Writer}
use Rattle.width_rules.specs.declared.writer.Writer.TheVariants as writer
use Rattle.width_rules.specs.Opened.{own}
use Rattle.width_rules.specs.Scopes.{Scope}
use Rattle.width_rules.specs.Signs.{is_signed}
use Rattle.width_rules.specs.Sizes.{length, push}
use Rattle.statement_rules.specs.Drives.{sized_drive, all_drive_faults, all_kind_faults, assign_faults}
use Rattle.statement_rules.specs.Statements.{assigned, assignment, label_length, label_signed, labels_length, labels_signed, items_length, items_signed, label_at, item_before, default_or, sized_statement, sized_arms, sized_default, label_faults, labels_faults, expression_faults, second_default, is_default_or, item_faults, arm_faults, statement_faults}
use Rattle.statement_rules.specs.Targets.{target_length, parts, kind_faults}
use Rattle.width_rules.proofs.Reading.{left_none, right_none}
use Rattle.statement_rules.specs.Renumbering.{renumbered, numbered_as, target_as, item_as, statement_as, arms_as, drive_as}
use Rattle.statement_rules.specs.Written.{IsTargetWritten, IsStatementWritten}
use Rattle.statement_rules.proofs.RenumberedFaults.{faults_as, target_long_as, target_faults_as, kinds_as}
use Rattle.statement_rules.proofs.RenumberedForms.{sign_as, long_as, form_as, own_as}
use Rattle.statement_rules.proofs.RenumberedTargets.{parts_as}

-- ---- assignments

pub assigned_as : (g : ℕ → ℕ) (scope : Scope) (m n : ℕ) (x : Expression) → m ≡ n → assigned (renumbered g scope) m x ≡ numbered_as g (assigned scope n x)
assigned_as g scope m n x widths =
    ap₂ (λ (k : ℕ) (t : Bool). push (renumbered g scope) x k t) (ap₂ max widths (long_as g scope x)) (sign_as g scope x)
    ∙ form_as g scope x (max n (length scope x)) (is_signed scope x)

assignment_as : (g : ℕ → ℕ) (by : Writer) (ts : List SizedTarget) (x : Sized) → assignment by (map (target_as g) ts) (numbered_as g x) ≡ statement_as g (assignment by ts x)
assignment_as g writer.Nothing ts x = refl
assignment_as g writer.Continuous ts x = refl
assignment_as g writer.Combinational ts x = refl
assignment_as g writer.Clocked ts x = refl

-- ---- labels

label_long_as : (g : ℕ → ℕ) (scope : Scope) (l : CaseLabel) → label_length (renumbered g scope) l ≡ label_length scope l
label_long_as g scope (DontCare at x) = refl
label_long_as g scope (Compared x) = long_as g scope x

label_sign_as : (g : ℕ → ℕ) (scope : Scope) (l : CaseLabel) → label_signed (renumbered g scope) l ≡ label_signed scope l
label_sign_as g scope (DontCare at x) = refl
label_sign_as g scope (Compared x) = sign_as g scope x

labels_long_as : (g : ℕ → ℕ) (scope : Scope) (ls : List CaseLabel) → labels_length (renumbered g scope) ls ≡ labels_length scope ls
labels_long_as g scope [] = refl
labels_long_as g scope (l ∷ ls) = ap₂ max (label_long_as g scope l) (labels_long_as g scope ls)

labels_sign_as : (g : ℕ → ℕ) (scope : Scope) (ls : List CaseLabel) → labels_signed (renumbered g scope) ls ≡ labels_signed scope ls
labels_sign_as g scope [] = refl
labels_sign_as g scope (l ∷ ls) = ap₂ (λ (a b : Bool). a && b) (label_sign_as g scope l) (labels_sign_as g scope ls)

items_long_as : (g : ℕ → ℕ) (scope : Scope) (x : Statement) → items_length (renumbered g scope) x ≡ items_length scope x
items_long_as g scope (Match ls body) = labels_long_as g scope ls
items_long_as g scope (Statements x xs) = ap₂ max (items_long_as g scope x) (items_long_as g scope xs)
items_long_as g scope other = refl

items_sign_as : (g : ℕ → ℕ) (scope : Scope) (x : Statement) → items_signed (renumbered g scope) x ≡ items_signed scope x
items_sign_as g scope (Match ls body) = labels_sign_as g scope ls
items_sign_as g scope (Statements x xs) = ap₂ (λ (a b : Bool). a && b) (items_sign_as g scope x) (items_sign_as g scope xs)
items_sign_as g scope other = refl

label_as : (g : ℕ → ℕ) (scope : Scope) (width : ℕ) (signed : Bool) (l : CaseLabel) → label_at (renumbered g scope) width signed l ≡ item_as g (label_at scope width signed l)
label_as g scope width signed (DontCare at x) = refl
label_as g scope width signed (Compared x) = ap (λ (z : Sized). record { ignored = 0; item = z }) (form_as g scope x width signed)

labels_as : (g : ℕ → ℕ) (scope : Scope) (width : ℕ) (signed : Bool) (ls : List CaseLabel)
    → map (label_at (renumbered g scope) width signed) ls ≡ map (item_as g) (map (label_at scope width signed) ls)
labels_as g scope width signed [] = refl
labels_as g scope width signed (l ∷ ls) = ap₂ (λ (z : SizedItem) (zs : List SizedItem). z ∷ zs) (label_as g scope width signed l) (labels_as g scope width signed ls)

-- ---- the items of a case

before_as : (g : ℕ → ℕ) (scope : Scope) (width : ℕ) (signed : Bool) (x : Statement) (body : SizedStmt) (rest : SizedArms)
    → item_before (renumbered g scope) width signed x (statement_as g body) (arms_as g rest) ≡ arms_as g (item_before scope width signed x body rest)
before_as g scope width signed (Match ls y) body rest = ap (λ (zs : List SizedItem). s.Arm zs (statement_as g body) (arms_as g rest)) (labels_as g scope width signed ls)
before_as g scope width signed other body rest = refl

or_as : (g : ℕ → ℕ) (x : Statement) (body rest : SizedStmt) → default_or x (statement_as g body) (statement_as g rest) ≡ statement_as g (default_or x body rest)
or_as g (Default at y) body rest = refl
or_as g other body rest = refl

-- ---- statements

mutual
  pub same_statement : (g : ℕ → ℕ) (scope : Scope) (by : Writer) (x : Statement) → IsStatementWritten x → item_faults scope by x ≡ []
      → sized_statement (renumbered g scope) by x ≡ statement_as g (sized_statement scope by x)
  same_statement g scope by (Block at label body) w h = same_statement g scope by body w h
  same_statement g scope by (If at c x) w h = ap₂ (λ (a : Sized) (b : SizedStmt). s.If a b s.Skip) (own_as g scope c) (same_statement g scope by x w.1 h)
  same_statement g scope by (IfElse at c x y) w h =
      ap (λ (a : Sized). s.If a (sized_statement (renumbered g scope) by x) (sized_statement (renumbered g scope) by y)) (own_as g scope c)
      ∙ ap₂ (s.If (numbered_as g (own scope c)))
      (same_statement g scope by x w.1.0 (left_none (item_faults scope by x) (item_faults scope by y) h))
      (same_statement g scope by y w.1.1 (right_none (item_faults scope by x) (item_faults scope by y) h))
  same_statement g scope by (Case at kind x items) w h =
      ap₂ (λ (k : ℕ) (t : Bool). s.Case (push (renumbered g scope) x k t) (sized_arms (renumbered g scope) by k t (sized_default (renumbered g scope) by items) items))
      (ap₂ max (long_as g scope x) (items_long_as g scope items)) (ap₂ (λ (a b : Bool). a && b) (sign_as g scope x) (items_sign_as g scope items))
      ∙ ap₂ s.Case
      (form_as g scope x (max (length scope x) (items_length scope items)) (is_signed scope x && items_signed scope items))
      (ap (λ (z : SizedStmt). sized_arms (renumbered g scope) by (max (length scope x) (items_length scope items)) (is_signed scope x && items_signed scope items) z items)
      (same_default g scope by false items w.1 h)
      ∙ same_arms g scope by (max (length scope x) (items_length scope items)) (is_signed scope x && items_signed scope items) false (sized_default scope by items) items w.1 h)
  same_statement g scope by (Assignment t x) w h =
      ap₂ (assignment by) (parts_as g scope by 0 t w.0 h) (assigned_as g scope (target_length (renumbered g scope) t) (target_length scope t) x (target_long_as g scope t))
      ∙ assignment_as g by (parts scope 0 t) (assigned scope (target_length scope t) x)
  same_statement g scope by (Null at) w h = refl
  same_statement g scope by (Default at body) w h = same_statement g scope by body w h
  same_statement g scope by (Match ls body) w h = same_statement g scope by body w.1 h
  same_statement g scope by NoStatement w h = refl
  same_statement g scope by (Statements x xs) w h =
      ap₂ s.Then (same_statement g scope by x w.0 (left_none (item_faults scope by x) (item_faults scope by xs) h))
      (same_statement g scope by xs w.1 (right_none (item_faults scope by x) (item_faults scope by xs) h))

  same_arms : (g : ℕ → ℕ) (scope : Scope) (by : Writer) (width : ℕ) (signed seen : Bool) (otherwise : SizedStmt) (x : Statement) → IsStatementWritten x → arm_faults scope by seen x ≡ []
      → sized_arms (renumbered g scope) by width signed (statement_as g otherwise) x ≡ arms_as g (sized_arms scope by width signed otherwise x)
  same_arms g scope by width signed seen otherwise (Statements x xs) w h =
      let rest : item_faults scope by x ++ arm_faults scope by (is_default_or seen x) xs ≡ [] =
      right_none (second_default seen x) (item_faults scope by x ++ arm_faults scope by (is_default_or seen x) xs) h in
      ap₂ (item_before (renumbered g scope) width signed x)
      (same_statement g scope by x w.0 (left_none (item_faults scope by x) (arm_faults scope by (is_default_or seen x) xs) rest))
      (same_arms g scope by width signed (is_default_or seen x) otherwise xs w.1 (right_none (item_faults scope by x) (arm_faults scope by (is_default_or seen x) xs) rest))
      ∙ before_as g scope width signed x (sized_statement scope by x) (sized_arms scope by width signed otherwise xs)
  same_arms g scope by width signed seen otherwise other w h = refl

  same_default : (g : ℕ → ℕ) (scope : Scope) (by : Writer) (seen : Bool) (x : Statement) → IsStatementWritten x → arm_faults scope by seen x ≡ []
      → sized_default (renumbered g scope) by x ≡ statement_as g (sized_default scope by x)
  same_default g scope by seen (Statements x xs) w h =
      let rest : item_faults scope by x ++ arm_faults scope by (is_default_or seen x) xs ≡ [] =
      right_none (second_default seen x) (item_faults scope by x ++ arm_faults scope by (is_default_or seen x) xs) h in
      ap₂ (default_or x)
      (same_statement g scope by x w.0 (left_none (item_faults scope by x) (arm_faults scope by (is_default_or seen x) xs) rest))
      (same_default g scope by (is_default_or seen x) xs w.1 (right_none (item_faults scope by x) (arm_faults scope by (is_default_or seen x) xs) rest))
      ∙ or_as g x (sized_statement scope by x) (sized_default scope by xs)
  same_default g scope by seen other w h = refl

-- ---- faults

label_faults_as : (g : ℕ → ℕ) (scope : Scope) (l : CaseLabel) → label_faults (renumbered g scope) l ≡ label_faults scope l
label_faults_as g scope (DontCare at x) = refl
label_faults_as g scope (Compared x) = faults_as g scope AnyValue x

labels_faults_as : (g : ℕ → ℕ) (scope : Scope) (ls : List CaseLabel) → labels_faults (renumbered g scope) ls ≡ labels_faults scope ls
labels_faults_as g scope [] = refl
labels_faults_as g scope (l ∷ ls) = joined_so (label_faults_as g scope l) (labels_faults_as g scope ls)

expression_faults_as : (g : ℕ → ℕ) (scope : Scope) (x : Statement) → expression_faults (renumbered g scope) x ≡ expression_faults scope x
expression_faults_as g scope (Block at label body) = expression_faults_as g scope body
expression_faults_as g scope (If at c x) = joined_so (faults_as g scope AnyValue c) (expression_faults_as g scope x)
expression_faults_as g scope (IfElse at c x y) = joined_so (faults_as g scope AnyValue c) (joined_so (expression_faults_as g scope x) (expression_faults_as g scope y))
expression_faults_as g scope (Case at kind x items) = joined_so (faults_as g scope AnyValue x) (expression_faults_as g scope items)
expression_faults_as g scope (Assignment t x) = joined_so (target_faults_as g scope AnyValue t) (faults_as g scope AnyValue x)
expression_faults_as g scope (Null at) = refl
expression_faults_as g scope (Default at body) = expression_faults_as g scope body
expression_faults_as g scope (Match ls body) = joined_so (labels_faults_as g scope ls) (expression_faults_as g scope body)
expression_faults_as g scope NoStatement = refl
expression_faults_as g scope (Statements x xs) = joined_so (expression_faults_as g scope x) (expression_faults_as g scope xs)

mutual
  item_faults_as : (g : ℕ → ℕ) (scope : Scope) (by : Writer) (x : Statement) → item_faults (renumbered g scope) by x ≡ item_faults scope by x
  item_faults_as g scope by (Block at label body) = item_faults_as g scope by body
  item_faults_as g scope by (If at c x) = item_faults_as g scope by x
  item_faults_as g scope by (IfElse at c x y) = joined_so (item_faults_as g scope by x) (item_faults_as g scope by y)
  item_faults_as g scope by (Case at kind x items) = arm_faults_as g scope by false items
  item_faults_as g scope by (Assignment t x) = kinds_as g scope by t
  item_faults_as g scope by (Null at) = refl
  item_faults_as g scope by (Default at body) = item_faults_as g scope by body
  item_faults_as g scope by (Match ls body) = item_faults_as g scope by body
  item_faults_as g scope by NoStatement = refl
  item_faults_as g scope by (Statements x xs) = joined_so (item_faults_as g scope by x) (item_faults_as g scope by xs)

  arm_faults_as : (g : ℕ → ℕ) (scope : Scope) (by : Writer) (seen : Bool) (x : Statement) → arm_faults (renumbered g scope) by seen x ≡ arm_faults scope by seen x
  arm_faults_as g scope by seen (Statements x xs) =
      joined_so refl (joined_so (item_faults_as g scope by x) (arm_faults_as g scope by (is_default_or seen x) xs))
  arm_faults_as g scope by seen other = refl

pub statement_faults_as : (g : ℕ → ℕ) (scope : Scope) (by : Writer) (x : Statement) → statement_faults (renumbered g scope) by x ≡ statement_faults scope by x
statement_faults_as g scope by x = joined_so (expression_faults_as g scope x) (item_faults_as g scope by x)

-- ---- continuous assignments

pub same_drive : (g : ℕ → ℕ) (scope : Scope) (x : ContinuousAssignment) → IsTargetWritten x.target → kind_faults scope writer.Continuous x.target ≡ []
    → sized_drive (renumbered g scope) x ≡ drive_as g (sized_drive scope x)
same_drive g scope x w h =
    ap₂ (λ (ps : List SizedTarget) (z : Sized). record { parts = ps; value = z }) (parts_as g scope writer.Continuous 0 x.target w h)
    (assigned_as g scope (target_length (renumbered g scope) x.target) (target_length scope x.target) x.value (target_long_as g scope x.target))

drive_faults_as : (g : ℕ → ℕ) (scope : Scope) (xs : List ContinuousAssignment) → all_drive_faults (renumbered g scope) xs ≡ all_drive_faults scope xs
drive_faults_as g scope [] = refl
drive_faults_as g scope (x ∷ xs) =
    joined_so (joined_so (target_faults_as g scope ConstantOnly x.target) (faults_as g scope AnyValue x.value)) (drive_faults_as g scope xs)

drive_kinds_as : (g : ℕ → ℕ) (scope : Scope) (xs : List ContinuousAssignment) → all_kind_faults (renumbered g scope) xs ≡ all_kind_faults scope xs
drive_kinds_as g scope [] = refl
drive_kinds_as g scope (x ∷ xs) = joined_so (kinds_as g scope writer.Continuous x.target) (drive_kinds_as g scope xs)

pub assign_faults_as : (g : ℕ → ℕ) (scope : Scope) (xs : List ContinuousAssignment) → assign_faults (renumbered g scope) xs ≡ assign_faults scope xs
assign_faults_as g scope xs = joined_so (drive_faults_as g scope xs) (drive_kinds_as g scope xs)
