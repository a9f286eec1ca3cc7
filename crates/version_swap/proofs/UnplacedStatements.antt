-- Statements and continuous assignments without places: the same sized form, and the same faults.
use Rattle.std.proofs.Common.{◌≡◌, ℕ, max, Bool, false, ◌&&◌, List, [], ◌∷◌, map, refl, ◌∙◌, ap, ap₂}
use Rattle.typed_ir.specs.Sized.{Sized}
use Rattle.typed_ir.specs.Stmts as s
use Rattle.typed_ir.specs.Stmts.{SizedTarget, SizedItem, SizedStmt, SizedArms}
use Rattle.verilog_ast.specs.Expressions.{Expression}
use Rattle.verilog_ast.specs.Items.{ContinuousAssignment}
use Rattle.verilog_ast.specs.Places.{no_place}
use Rattle.verilog_ast.specs.Statements.{CaseLabel, DontCare, Compared, Statement, Block, If, IfElse, Case, Assignment, Default, Match, Statements}
use Rattle.width_rules.specs.declared.due.Due.TheVariants.{AnyValue, ConstantOnly}
use Rattle.width_rules.specs.declared.writer.Writer.{Writer}
use Rattle.width_rules.specs.declared.writer.Writer.TheVariants as writer
use Rattle.statement_rules.specs.Drives.{sized_drive, all_drive_faults, all_kind_faults, assign_faults}
use Rattle.width_rules.specs.Faults.{fault}
use Rattle.width_rules.specs.Opened.{own}
use Rattle.width_rules.specs.Scopes.{Scope}
use Rattle.width_rules.specs.Signs.{is_signed}
use Rattle.width_rules.specs.Sizes.{length, push, literal_length}
use Rattle.statement_rules.specs.Statements.{assigned, assignment, label_length, label_signed, labels_length, labels_signed, items_length, items_signed, label_at, item_before, default_or, sized_statement, sized_arms, sized_default, label_faults, labels_faults, expression_faults, second_default, is_default_or, item_faults, arm_faults, statement_faults}
use Rattle.statement_rules.specs.Targets.{target_length}
use Rattle.version_swap.specs.Unplaced.{unplaced_assignment, unplaced_expression, unplaced_label, unplaced_statement, unplaced_target}
use Rattle.version_swap.specs.UnplacedFindings.{fault_unplaced}
use Rattle.version_swap.proofs.UnplacedSizes.{same_sign, same_length, same_form, same_own}
use Rattle.version_swap.proofs.UnplacedFaults.{both_so, if_so, total_so, same_faults}
use Rattle.version_swap.proofs.UnplacedTargets.{same_target_length, same_parts, same_target_faults, same_kinds}

-- ---- assignments

pub same_assigned : (scope : Scope) (m n : ℕ) (x : Expression) → m ≡ n → assigned scope m (unplaced_expression x) ≡ assigned scope n x
same_assigned scope m n x widths =
    ap₂ (λ (k : ℕ) (t : Bool). push scope (unplaced_expression x) k t) (ap₂ max widths (same_length scope x)) (same_sign scope x)
    ∙ same_form scope x (max n (length scope x)) (is_signed scope x)

-- ---- labels

same_label_length : (scope : Scope) (l : CaseLabel) → label_length scope (unplaced_label l) ≡ label_length scope l
same_label_length scope (Compared x) = same_length scope x
same_label_length scope (DontCare at x) = refl

same_label_sign : (scope : Scope) (l : CaseLabel) → label_signed scope (unplaced_label l) ≡ label_signed scope l
same_label_sign scope (Compared x) = same_sign scope x
same_label_sign scope (DontCare at x) = refl

same_labels_length : (scope : Scope) (ls : List CaseLabel) → labels_length scope (map unplaced_label ls) ≡ labels_length scope ls
same_labels_length scope (l ∷ ls) = ap₂ max (same_label_length scope l) (same_labels_length scope ls)
same_labels_length scope [] = refl

same_labels_sign : (scope : Scope) (ls : List CaseLabel) → labels_signed scope (map unplaced_label ls) ≡ labels_signed scope ls
same_labels_sign scope (l ∷ ls) = ap₂ (λ (a b : Bool). a && b) (same_label_sign scope l) (same_labels_sign scope ls)
same_labels_sign scope [] = refl

same_items_length : (scope : Scope) (x : Statement) → items_length scope (unplaced_statement x) ≡ items_length scope x
same_items_length scope (Match ls body) = same_labels_length scope ls
same_items_length scope (Statements x xs) = ap₂ max (same_items_length scope x) (same_items_length scope xs)
same_items_length scope other = refl

same_items_sign : (scope : Scope) (x : Statement) → items_signed scope (unplaced_statement x) ≡ items_signed scope x
same_items_sign scope (Match ls body) = same_labels_sign scope ls
same_items_sign scope (Statements x xs) = ap₂ (λ (a b : Bool). a && b) (same_items_sign scope x) (same_items_sign scope xs)
same_items_sign scope other = refl

same_label : (scope : Scope) (width : ℕ) (signed : Bool) (l : CaseLabel)
    → label_at scope width signed (unplaced_label l) ≡ label_at scope width signed l
same_label scope width signed (Compared x) = ap (λ (z : Sized). record { ignored = 0; item = z }) (same_form scope x width signed)
same_label scope width signed (DontCare at x) = refl

same_labels : (scope : Scope) (width : ℕ) (signed : Bool) (ls : List CaseLabel)
    → map (label_at scope width signed) (map unplaced_label ls) ≡ map (label_at scope width signed) ls
same_labels scope width signed (l ∷ ls) =
    ap₂ (λ (z : SizedItem) (zs : List SizedItem). z ∷ zs) (same_label scope width signed l) (same_labels scope width signed ls)
same_labels scope width signed [] = refl

-- ---- statements

same_before : (scope : Scope) (width : ℕ) (signed : Bool) (x : Statement) (body : SizedStmt) (after : SizedArms)
    → item_before scope width signed (unplaced_statement x) body after ≡ item_before scope width signed x body after
same_before scope width signed (Match ls x) body after = ap (λ (zs : List SizedItem). s.Arm zs body after) (same_labels scope width signed ls)
same_before scope width signed other inner after = refl

same_or : (x : Statement) (body after : SizedStmt) → default_or (unplaced_statement x) body after ≡ default_or x body after
same_or (Default at body) inner after = refl
same_or other inner after = refl

mutual
  pub same_statement : (scope : Scope) (by : Writer) (x : Statement) → sized_statement scope by (unplaced_statement x) ≡ sized_statement scope by x
  same_statement scope by (Block at label body) = same_statement scope by body
  same_statement scope by (If at c x) = ap₂ (λ (a : Sized) (b : SizedStmt). s.If a b s.Skip) (same_own scope c) (same_statement scope by x)
  same_statement scope by (IfElse at c x y) =
      ap (λ (a : Sized). s.If a (sized_statement scope by (unplaced_statement x)) (sized_statement scope by (unplaced_statement y)))
      (same_own scope c)
      ∙ ap₂ (s.If (own scope c)) (same_statement scope by x) (same_statement scope by y)
  same_statement scope by (Case at kind x items) =
      ap₂ (λ (n : ℕ) (t : Bool). s.Case (push scope (unplaced_expression x) n t)
      (sized_arms scope by n t (sized_default scope by (unplaced_statement items)) (unplaced_statement items)))
      (ap₂ max (same_length scope x) (same_items_length scope items))
      (ap₂ (λ (a b : Bool). a && b) (same_sign scope x) (same_items_sign scope items))
      ∙ ap₂ (λ (z : Sized) (d : SizedStmt). s.Case z
      (sized_arms scope by (max (length scope x) (items_length scope items)) (is_signed scope x && items_signed scope items) d
      (unplaced_statement items)))
      (same_form scope x (max (length scope x) (items_length scope items)) (is_signed scope x && items_signed scope items))
      (same_default scope by items)
      ∙ ap (s.Case (push scope x (max (length scope x) (items_length scope items)) (is_signed scope x && items_signed scope items)))
      (same_arms scope by (max (length scope x) (items_length scope items)) (is_signed scope x && items_signed scope items)
      (sized_default scope by items) items)
  same_statement scope by (Assignment t x) =
      ap₂ (assignment by) (same_parts scope 0 t)
      (same_assigned scope (target_length scope (unplaced_target t)) (target_length scope t) x (same_target_length scope t))
  same_statement scope by (Default at body) = same_statement scope by body
  same_statement scope by (Match ls body) = same_statement scope by body
  same_statement scope by (Statements x xs) = ap₂ s.Then (same_statement scope by x) (same_statement scope by xs)
  same_statement scope by other = refl

  same_arms : (scope : Scope) (by : Writer) (width : ℕ) (signed : Bool) (otherwise : SizedStmt) (x : Statement)
      → sized_arms scope by width signed otherwise (unplaced_statement x) ≡ sized_arms scope by width signed otherwise x
  same_arms scope by width signed otherwise (Statements x xs) =
      ap₂ (item_before scope width signed (unplaced_statement x)) (same_statement scope by x) (same_arms scope by width signed otherwise xs)
      ∙ same_before scope width signed x (sized_statement scope by x) (sized_arms scope by width signed otherwise xs)
  same_arms scope by width signed otherwise other = refl

  same_default : (scope : Scope) (by : Writer) (x : Statement) → sized_default scope by (unplaced_statement x) ≡ sized_default scope by x
  same_default scope by (Statements x xs) =
      ap₂ (default_or (unplaced_statement x)) (same_statement scope by x) (same_default scope by xs)
      ∙ same_or x (sized_statement scope by x) (sized_default scope by xs)
  same_default scope by other = refl

-- ---- faults

same_label_faults : (scope : Scope) (l : CaseLabel) → label_faults scope (unplaced_label l) ≡ map fault_unplaced (label_faults scope l)
same_label_faults scope (DontCare at x) = total_so at (literal_length x.size) (literal_length x.size) refl
same_label_faults scope (Compared x) = same_faults scope AnyValue x

same_labels_faults : (scope : Scope) (ls : List CaseLabel) → labels_faults scope (map unplaced_label ls) ≡ map fault_unplaced (labels_faults scope ls)
same_labels_faults scope (l ∷ ls) = both_so _ _ _ _ (same_label_faults scope l) (same_labels_faults scope ls)
same_labels_faults scope [] = refl

same_expression_faults : (scope : Scope) (x : Statement)
    → expression_faults scope (unplaced_statement x) ≡ map fault_unplaced (expression_faults scope x)
same_expression_faults scope (Block at label body) = same_expression_faults scope body
same_expression_faults scope (If at c x) = both_so _ _ _ _ (same_faults scope AnyValue c) (same_expression_faults scope x)
same_expression_faults scope (IfElse at c x y) =
    both_so _ _ _ _ (same_faults scope AnyValue c) (both_so _ _ _ _ (same_expression_faults scope x) (same_expression_faults scope y))
same_expression_faults scope (Case at kind x items) = both_so _ _ _ _ (same_faults scope AnyValue x) (same_expression_faults scope items)
same_expression_faults scope (Assignment t x) = both_so _ _ _ _ (same_target_faults scope AnyValue t) (same_faults scope AnyValue x)
same_expression_faults scope (Default at body) = same_expression_faults scope body
same_expression_faults scope (Match ls body) = both_so _ _ _ _ (same_labels_faults scope ls) (same_expression_faults scope body)
same_expression_faults scope (Statements x xs) = both_so _ _ _ _ (same_expression_faults scope x) (same_expression_faults scope xs)
same_expression_faults scope other = refl

same_second : (seen : Bool) (x : Statement) → second_default seen (unplaced_statement x) ≡ map fault_unplaced (second_default seen x)
same_second seen (Default at body) = if_so seen seen (fault 30 no_place []) (fault 30 at []) refl refl
same_second seen other = refl

same_seen : (seen : Bool) (x : Statement) → is_default_or seen (unplaced_statement x) ≡ is_default_or seen x
same_seen seen (Default at body) = refl
same_seen seen other = refl

mutual
  same_item_faults : (scope : Scope) (by : Writer) (x : Statement)
      → item_faults scope by (unplaced_statement x) ≡ map fault_unplaced (item_faults scope by x)
  same_item_faults scope by (Block at label body) = same_item_faults scope by body
  same_item_faults scope by (If at c x) = same_item_faults scope by x
  same_item_faults scope by (IfElse at c x y) = both_so _ _ _ _ (same_item_faults scope by x) (same_item_faults scope by y)
  same_item_faults scope by (Case at kind x items) = same_arm_faults scope by false items
  same_item_faults scope by (Assignment t x) = same_kinds scope by t
  same_item_faults scope by (Default at body) = same_item_faults scope by body
  same_item_faults scope by (Match ls body) = same_item_faults scope by body
  same_item_faults scope by (Statements x xs) = both_so _ _ _ _ (same_item_faults scope by x) (same_item_faults scope by xs)
  same_item_faults scope by other = refl

  same_arm_faults : (scope : Scope) (by : Writer) (seen : Bool) (x : Statement)
      → arm_faults scope by seen (unplaced_statement x) ≡ map fault_unplaced (arm_faults scope by seen x)
  same_arm_faults scope by seen (Statements x xs) =
      both_so _ _ _ _ (same_second seen x) (both_so _ _ _ _ (same_item_faults scope by x)
      (ap (λ (b : Bool). arm_faults scope by b (unplaced_statement xs)) (same_seen seen x) ∙ same_arm_faults scope by (is_default_or seen x) xs))
  same_arm_faults scope by seen other = refl

pub same_statement_faults : (scope : Scope) (by : Writer) (x : Statement)
    → statement_faults scope by (unplaced_statement x) ≡ map fault_unplaced (statement_faults scope by x)
same_statement_faults scope by x = both_so _ _ _ _ (same_expression_faults scope x) (same_item_faults scope by x)

-- ---- continuous assignments

pub same_drive : (scope : Scope) (x : ContinuousAssignment) → sized_drive scope (unplaced_assignment x) ≡ sized_drive scope x
same_drive scope x =
    ap₂ (λ (ps : List SizedTarget) (z : Sized). record { parts = ps; value = z }) (same_parts scope 0 x.target)
    (same_assigned scope (target_length scope (unplaced_target x.target)) (target_length scope x.target) x.value (same_target_length scope x.target))

same_drives : (scope : Scope) (xs : List ContinuousAssignment)
    → all_drive_faults scope (map unplaced_assignment xs) ≡ map fault_unplaced (all_drive_faults scope xs)
same_drives scope (x ∷ xs) =
    both_so _ _ _ _ (both_so _ _ _ _ (same_target_faults scope ConstantOnly x.target) (same_faults scope AnyValue x.value)) (same_drives scope xs)
same_drives scope [] = refl

same_drive_kinds : (scope : Scope) (xs : List ContinuousAssignment)
    → all_kind_faults scope (map unplaced_assignment xs) ≡ map fault_unplaced (all_kind_faults scope xs)
same_drive_kinds scope (x ∷ xs) = both_so _ _ _ _ (same_kinds scope writer.Continuous x.target) (same_drive_kinds scope xs)
same_drive_kinds scope [] = refl

pub same_assign_faults : (scope : Scope) (xs : List ContinuousAssignment)
    → assign_faults scope (map unplaced_assignment xs) ≡ map fault_unplaced (assign_faults scope xs)
same_assign_faults scope xs = both_so _ _ _ _ (same_drives scope xs) (same_drive_kinds scope xs)
