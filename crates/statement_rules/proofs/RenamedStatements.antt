-- Statements and continuous assignments under other names: the same sized form, and the same faults with their other names.
use Rattle.std.proofs.Common.{◌≡◌, ℕ, max, Bool, false, ◌&&◌, List, [], ◌∷◌, map, refl, ◌∙◌, ap, ap₂}
use Rattle.ls_text.specs.declared.name_id.NameId.{NameId}
use Rattle.typed_ir.specs.Sized.{Sized}
use Rattle.typed_ir.specs.Stmts as s
use Rattle.typed_ir.specs.Stmts.{SizedTarget, SizedItem, SizedStmt, SizedArms}
use Rattle.verilog_ast.specs.Expressions.{Expression}
use Rattle.verilog_ast.specs.Items.{ContinuousAssignment}
use Rattle.verilog_ast.specs.Renaming.{expression_as, target_as, label_as, statement_as, assignment_as}
use Rattle.verilog_ast.specs.Statements.{CaseLabel, DontCare, Compared, Statement, Block, If, IfElse, Case, Assignment, Null, Default, Match, NoStatement, Statements}
use Rattle.width_rules.specs.declared.due.Due.TheVariants.{AnyValue, ConstantOnly}
use Rattle.width_rules.specs.declared.writer.Writer.{Writer}
use Rattle.width_rules.specs.declared.writer.Writer.TheVariants as writer
use Rattle.statement_rules.specs.Drives.{sized_drive, all_drive_faults, all_kind_faults, assign_faults}
use Rattle.width_rules.specs.Faults.{fault}
use Rattle.width_rules.specs.Opened.{own}
use Rattle.width_rules.specs.Renaming.{MeansSame, fault_as}
use Rattle.width_rules.specs.Scopes.{Scope}
use Rattle.width_rules.specs.Signs.{is_signed}
use Rattle.width_rules.specs.Sizes.{length, push, literal_length}
use Rattle.statement_rules.specs.Statements.{assigned, assignment, label_length, label_signed, labels_length, labels_signed, items_length, items_signed, label_at, item_before, default_or, sized_statement, sized_arms, sized_default, label_faults, labels_faults, expression_faults, second_default, is_default_or, item_faults, arm_faults, statement_faults}
use Rattle.statement_rules.specs.Targets.{target_length, parts}
use Rattle.width_rules.proofs.RenamedSizes.{same_sign, same_length, same_form, same_own}
use Rattle.width_rules.proofs.RenamedFaults.{both_so, if_so, total_so, same_faults}
use Rattle.statement_rules.proofs.RenamedTargets.{same_target_length, same_parts, same_target_faults, same_kinds}

-- ---- assignments

pub same_assigned : (f : NameId → NameId) (scope other : Scope) (m n : ℕ) (x : Expression) → MeansSame f scope other → m ≡ n → assigned other m (expression_as f x) ≡ assigned scope n x
same_assigned f scope other m n x same widths =
    ap₂ (λ (k : ℕ) (t : Bool). push other (expression_as f x) k t) (ap₂ max widths (same_length f scope other x same)) (same_sign f scope other x same)
    ∙ same_form f scope other x (max n (length scope x)) (is_signed scope x) same

-- ---- labels

same_label_length : (f : NameId → NameId) (scope other : Scope) (l : CaseLabel) → MeansSame f scope other → label_length other (label_as f l) ≡ label_length scope l
same_label_length f scope other (DontCare at x) same = refl
same_label_length f scope other (Compared x) same = same_length f scope other x same

same_label_sign : (f : NameId → NameId) (scope other : Scope) (l : CaseLabel) → MeansSame f scope other → label_signed other (label_as f l) ≡ label_signed scope l
same_label_sign f scope other (DontCare at x) same = refl
same_label_sign f scope other (Compared x) same = same_sign f scope other x same

same_labels_length : (f : NameId → NameId) (scope other : Scope) (ls : List CaseLabel) → MeansSame f scope other → labels_length other (map (label_as f) ls) ≡ labels_length scope ls
same_labels_length f scope other [] same = refl
same_labels_length f scope other (l ∷ ls) same = ap₂ max (same_label_length f scope other l same) (same_labels_length f scope other ls same)

same_labels_sign : (f : NameId → NameId) (scope other : Scope) (ls : List CaseLabel) → MeansSame f scope other → labels_signed other (map (label_as f) ls) ≡ labels_signed scope ls
same_labels_sign f scope other [] same = refl
same_labels_sign f scope other (l ∷ ls) same = ap₂ (λ (a b : Bool). a && b) (same_label_sign f scope other l same) (same_labels_sign f scope other ls same)

same_items_length : (f : NameId → NameId) (scope other : Scope) (x : Statement) → MeansSame f scope other → items_length other (statement_as f x) ≡ items_length scope x
same_items_length f scope other (Match ls body) same = same_labels_length f scope other ls same
same_items_length f scope other (Statements x xs) same = ap₂ max (same_items_length f scope other x same) (same_items_length f scope other xs same)
same_items_length f scope other (Block at label body) same = refl
same_items_length f scope other (If at c x) same = refl
same_items_length f scope other (IfElse at c x y) same = refl
same_items_length f scope other (Case at kind x items) same = refl
same_items_length f scope other (Assignment t x) same = refl
same_items_length f scope other (Null at) same = refl
same_items_length f scope other (Default at body) same = refl
same_items_length f scope other NoStatement same = refl

same_items_sign : (f : NameId → NameId) (scope other : Scope) (x : Statement) → MeansSame f scope other → items_signed other (statement_as f x) ≡ items_signed scope x
same_items_sign f scope other (Match ls body) same = same_labels_sign f scope other ls same
same_items_sign f scope other (Statements x xs) same = ap₂ (λ (a b : Bool). a && b) (same_items_sign f scope other x same) (same_items_sign f scope other xs same)
same_items_sign f scope other (Block at label body) same = refl
same_items_sign f scope other (If at c x) same = refl
same_items_sign f scope other (IfElse at c x y) same = refl
same_items_sign f scope other (Case at kind x items) same = refl
same_items_sign f scope other (Assignment t x) same = refl
same_items_sign f scope other (Null at) same = refl
same_items_sign f scope other (Default at body) same = refl
same_items_sign f scope other NoStatement same = refl

same_label : (f : NameId → NameId) (scope other : Scope) (width : ℕ) (signed : Bool) (l : CaseLabel) → MeansSame f scope other → label_at other width signed (label_as f l) ≡ label_at scope width signed l
same_label f scope other width signed (DontCare at x) same = refl
same_label f scope other width signed (Compared x) same = ap (λ (z : Sized). record { ignored = 0; item = z }) (same_form f scope other x width signed same)

same_labels : (f : NameId → NameId) (scope other : Scope) (width : ℕ) (signed : Bool) (ls : List CaseLabel) → MeansSame f scope other
    → map (label_at other width signed) (map (label_as f) ls) ≡ map (label_at scope width signed) ls
same_labels f scope other width signed [] same = refl
same_labels f scope other width signed (l ∷ ls) same =
    ap₂ (λ (z : SizedItem) (zs : List SizedItem). z ∷ zs) (same_label f scope other width signed l same) (same_labels f scope other width signed ls same)

-- ---- statements

same_before : (f : NameId → NameId) (scope other : Scope) (width : ℕ) (signed : Bool) (x : Statement) (body : SizedStmt) (after : SizedArms) → MeansSame f scope other
    → item_before other width signed (statement_as f x) body after ≡ item_before scope width signed x body after
same_before f scope other width signed (Match ls x) body after same = ap (λ (zs : List SizedItem). s.Arm zs body after) (same_labels f scope other width signed ls same)
same_before f scope other width signed (Block at label body) inner after same = refl
same_before f scope other width signed (If at c x) inner after same = refl
same_before f scope other width signed (IfElse at c x y) inner after same = refl
same_before f scope other width signed (Case at kind x items) inner after same = refl
same_before f scope other width signed (Assignment t x) inner after same = refl
same_before f scope other width signed (Null at) inner after same = refl
same_before f scope other width signed (Default at body) inner after same = refl
same_before f scope other width signed NoStatement inner after same = refl
same_before f scope other width signed (Statements x xs) inner after same = refl

same_or : (f : NameId → NameId) (x : Statement) (body after : SizedStmt) → default_or (statement_as f x) body after ≡ default_or x body after
same_or f (Block at label body) inner after = refl
same_or f (If at c x) inner after = refl
same_or f (IfElse at c x y) inner after = refl
same_or f (Case at kind x items) inner after = refl
same_or f (Assignment t x) inner after = refl
same_or f (Null at) inner after = refl
same_or f (Default at body) inner after = refl
same_or f (Match ls body) inner after = refl
same_or f NoStatement inner after = refl
same_or f (Statements x xs) inner after = refl

mutual
  pub same_statement : (f : NameId → NameId) (scope other : Scope) (by : Writer) (x : Statement) → MeansSame f scope other → sized_statement other by (statement_as f x) ≡ sized_statement scope by x
  same_statement f scope other by (Block at label body) same = same_statement f scope other by body same
  same_statement f scope other by (If at c x) same = ap₂ (λ (a : Sized) (b : SizedStmt). s.If a b s.Skip) (same_own f scope other c same) (same_statement f scope other by x same)
  same_statement f scope other by (IfElse at c x y) same =
      ap (λ (a : Sized). s.If a (sized_statement other by (statement_as f x)) (sized_statement other by (statement_as f y))) (same_own f scope other c same)
      ∙ ap₂ (s.If (own scope c)) (same_statement f scope other by x same) (same_statement f scope other by y same)
  same_statement f scope other by (Case at kind x items) same =
      ap₂ (λ (n : ℕ) (t : Bool). s.Case (push other (expression_as f x) n t) (sized_arms other by n t (sized_default other by (statement_as f items)) (statement_as f items)))
      (ap₂ max (same_length f scope other x same) (same_items_length f scope other items same))
      (ap₂ (λ (a b : Bool). a && b) (same_sign f scope other x same) (same_items_sign f scope other items same))
      ∙ ap₂ (λ (z : Sized) (d : SizedStmt). s.Case z (sized_arms other by (max (length scope x) (items_length scope items)) (is_signed scope x && items_signed scope items) d (statement_as f items)))
      (same_form f scope other x (max (length scope x) (items_length scope items)) (is_signed scope x && items_signed scope items) same) (same_default f scope other by items same)
      ∙ ap (s.Case (push scope x (max (length scope x) (items_length scope items)) (is_signed scope x && items_signed scope items)))
      (same_arms f scope other by (max (length scope x) (items_length scope items)) (is_signed scope x && items_signed scope items) (sized_default scope by items) items same)
  same_statement f scope other by (Assignment t x) same =
      ap₂ (assignment by) (same_parts f scope other 0 t same) (same_assigned f scope other (target_length other (target_as f t)) (target_length scope t) x same (same_target_length f scope other t same))
  same_statement f scope other by (Null at) same = refl
  same_statement f scope other by (Default at body) same = same_statement f scope other by body same
  same_statement f scope other by (Match ls body) same = same_statement f scope other by body same
  same_statement f scope other by NoStatement same = refl
  same_statement f scope other by (Statements x xs) same = ap₂ s.Then (same_statement f scope other by x same) (same_statement f scope other by xs same)

  same_arms : (f : NameId → NameId) (scope other : Scope) (by : Writer) (width : ℕ) (signed : Bool) (otherwise : SizedStmt) (x : Statement) → MeansSame f scope other
      → sized_arms other by width signed otherwise (statement_as f x) ≡ sized_arms scope by width signed otherwise x
  same_arms f scope other by width signed otherwise (Statements x xs) same =
      ap₂ (item_before other width signed (statement_as f x)) (same_statement f scope other by x same) (same_arms f scope other by width signed otherwise xs same)
      ∙ same_before f scope other width signed x (sized_statement scope by x) (sized_arms scope by width signed otherwise xs) same
  same_arms f scope other by width signed otherwise (Block at label body) same = refl
  same_arms f scope other by width signed otherwise (If at c x) same = refl
  same_arms f scope other by width signed otherwise (IfElse at c x y) same = refl
  same_arms f scope other by width signed otherwise (Case at kind x items) same = refl
  same_arms f scope other by width signed otherwise (Assignment t x) same = refl
  same_arms f scope other by width signed otherwise (Null at) same = refl
  same_arms f scope other by width signed otherwise (Default at body) same = refl
  same_arms f scope other by width signed otherwise (Match ls body) same = refl
  same_arms f scope other by width signed otherwise NoStatement same = refl

  same_default : (f : NameId → NameId) (scope other : Scope) (by : Writer) (x : Statement) → MeansSame f scope other → sized_default other by (statement_as f x) ≡ sized_default scope by x
  same_default f scope other by (Statements x xs) same =
      ap₂ (default_or (statement_as f x)) (same_statement f scope other by x same) (same_default f scope other by xs same)
      ∙ same_or f x (sized_statement scope by x) (sized_default scope by xs)
  same_default f scope other by (Block at label body) same = refl
  same_default f scope other by (If at c x) same = refl
  same_default f scope other by (IfElse at c x y) same = refl
  same_default f scope other by (Case at kind x items) same = refl
  same_default f scope other by (Assignment t x) same = refl
  same_default f scope other by (Null at) same = refl
  same_default f scope other by (Default at body) same = refl
  same_default f scope other by (Match ls body) same = refl
  same_default f scope other by NoStatement same = refl

-- ---- faults

same_label_faults : (f : NameId → NameId) (scope other : Scope) (l : CaseLabel) → MeansSame f scope other → label_faults other (label_as f l) ≡ map (fault_as f) (label_faults scope l)
same_label_faults f scope other (DontCare at x) same = total_so f at (literal_length x.size) (literal_length x.size) refl
same_label_faults f scope other (Compared x) same = same_faults f scope other AnyValue x same

same_labels_faults : (f : NameId → NameId) (scope other : Scope) (ls : List CaseLabel) → MeansSame f scope other → labels_faults other (map (label_as f) ls) ≡ map (fault_as f) (labels_faults scope ls)
same_labels_faults f scope other [] same = refl
same_labels_faults f scope other (l ∷ ls) same = both_so f _ _ _ _ (same_label_faults f scope other l same) (same_labels_faults f scope other ls same)

same_expression_faults : (f : NameId → NameId) (scope other : Scope) (x : Statement) → MeansSame f scope other → expression_faults other (statement_as f x) ≡ map (fault_as f) (expression_faults scope x)
same_expression_faults f scope other (Block at label body) same = same_expression_faults f scope other body same
same_expression_faults f scope other (If at c x) same = both_so f _ _ _ _ (same_faults f scope other AnyValue c same) (same_expression_faults f scope other x same)
same_expression_faults f scope other (IfElse at c x y) same =
    both_so f _ _ _ _ (same_faults f scope other AnyValue c same) (both_so f _ _ _ _ (same_expression_faults f scope other x same) (same_expression_faults f scope other y same))
same_expression_faults f scope other (Case at kind x items) same = both_so f _ _ _ _ (same_faults f scope other AnyValue x same) (same_expression_faults f scope other items same)
same_expression_faults f scope other (Assignment t x) same = both_so f _ _ _ _ (same_target_faults f scope other AnyValue t same) (same_faults f scope other AnyValue x same)
same_expression_faults f scope other (Null at) same = refl
same_expression_faults f scope other (Default at body) same = same_expression_faults f scope other body same
same_expression_faults f scope other (Match ls body) same = both_so f _ _ _ _ (same_labels_faults f scope other ls same) (same_expression_faults f scope other body same)
same_expression_faults f scope other NoStatement same = refl
same_expression_faults f scope other (Statements x xs) same = both_so f _ _ _ _ (same_expression_faults f scope other x same) (same_expression_faults f scope other xs same)

same_second : (f : NameId → NameId) (seen : Bool) (x : Statement) → second_default seen (statement_as f x) ≡ map (fault_as f) (second_default seen x)
same_second f seen (Default at body) = if_so f seen seen (fault 30 at []) (fault 30 at []) refl refl
same_second f seen (Block at label body) = refl
same_second f seen (If at c x) = refl
same_second f seen (IfElse at c x y) = refl
same_second f seen (Case at kind x items) = refl
same_second f seen (Assignment t x) = refl
same_second f seen (Null at) = refl
same_second f seen (Match ls body) = refl
same_second f seen NoStatement = refl
same_second f seen (Statements x xs) = refl

same_seen : (f : NameId → NameId) (seen : Bool) (x : Statement) → is_default_or seen (statement_as f x) ≡ is_default_or seen x
same_seen f seen (Block at label body) = refl
same_seen f seen (If at c x) = refl
same_seen f seen (IfElse at c x y) = refl
same_seen f seen (Case at kind x items) = refl
same_seen f seen (Assignment t x) = refl
same_seen f seen (Null at) = refl
same_seen f seen (Default at body) = refl
same_seen f seen (Match ls body) = refl
same_seen f seen NoStatement = refl
same_seen f seen (Statements x xs) = refl

mutual
  same_item_faults : (f : NameId → NameId) (scope other : Scope) (by : Writer) (x : Statement) → MeansSame f scope other → item_faults other by (statement_as f x) ≡ map (fault_as f) (item_faults scope by x)
  same_item_faults f scope other by (Block at label body) same = same_item_faults f scope other by body same
  same_item_faults f scope other by (If at c x) same = same_item_faults f scope other by x same
  same_item_faults f scope other by (IfElse at c x y) same = both_so f _ _ _ _ (same_item_faults f scope other by x same) (same_item_faults f scope other by y same)
  same_item_faults f scope other by (Case at kind x items) same = same_arm_faults f scope other by false items same
  same_item_faults f scope other by (Assignment t x) same = same_kinds f scope other by t same
  same_item_faults f scope other by (Null at) same = refl
  same_item_faults f scope other by (Default at body) same = same_item_faults f scope other by body same
  same_item_faults f scope other by (Match ls body) same = same_item_faults f scope other by body same
  same_item_faults f scope other by NoStatement same = refl
  same_item_faults f scope other by (Statements x xs) same = both_so f _ _ _ _ (same_item_faults f scope other by x same) (same_item_faults f scope other by xs same)

  same_arm_faults : (f : NameId → NameId) (scope other : Scope) (by : Writer) (seen : Bool) (x : Statement) → MeansSame f scope other
      → arm_faults other by seen (statement_as f x) ≡ map (fault_as f) (arm_faults scope by seen x)
  same_arm_faults f scope other by seen (Statements x xs) same =
      both_so f _ _ _ _ (same_second f seen x) (both_so f _ _ _ _ (same_item_faults f scope other by x same)
      (ap (λ (b : Bool). arm_faults other by b (statement_as f xs)) (same_seen f seen x) ∙ same_arm_faults f scope other by (is_default_or seen x) xs same))
  same_arm_faults f scope other by seen (Block at label body) same = refl
  same_arm_faults f scope other by seen (If at c x) same = refl
  same_arm_faults f scope other by seen (IfElse at c x y) same = refl
  same_arm_faults f scope other by seen (Case at kind x items) same = refl
  same_arm_faults f scope other by seen (Assignment t x) same = refl
  same_arm_faults f scope other by seen (Null at) same = refl
  same_arm_faults f scope other by seen (Default at body) same = refl
  same_arm_faults f scope other by seen (Match ls body) same = refl
  same_arm_faults f scope other by seen NoStatement same = refl

pub same_statement_faults : (f : NameId → NameId) (scope other : Scope) (by : Writer) (x : Statement) → MeansSame f scope other
    → statement_faults other by (statement_as f x) ≡ map (fault_as f) (statement_faults scope by x)
same_statement_faults f scope other by x same = both_so f _ _ _ _ (same_expression_faults f scope other x same) (same_item_faults f scope other by x same)

-- ---- continuous assignments

pub same_drive : (f : NameId → NameId) (scope other : Scope) (x : ContinuousAssignment) → MeansSame f scope other → sized_drive other (assignment_as f x) ≡ sized_drive scope x
same_drive f scope other x same =
    ap₂ (λ (ps : List SizedTarget) (z : Sized). record { parts = ps; value = z }) (same_parts f scope other 0 x.target same)
    (same_assigned f scope other (target_length other (target_as f x.target)) (target_length scope x.target) x.value same (same_target_length f scope other x.target same))

same_drives : (f : NameId → NameId) (scope other : Scope) (xs : List ContinuousAssignment) → MeansSame f scope other
    → all_drive_faults other (map (assignment_as f) xs) ≡ map (fault_as f) (all_drive_faults scope xs)
same_drives f scope other [] same = refl
same_drives f scope other (x ∷ xs) same =
    both_so f _ _ _ _ (both_so f _ _ _ _ (same_target_faults f scope other ConstantOnly x.target same) (same_faults f scope other AnyValue x.value same)) (same_drives f scope other xs same)

same_drive_kinds : (f : NameId → NameId) (scope other : Scope) (xs : List ContinuousAssignment) → MeansSame f scope other
    → all_kind_faults other (map (assignment_as f) xs) ≡ map (fault_as f) (all_kind_faults scope xs)
same_drive_kinds f scope other [] same = refl
same_drive_kinds f scope other (x ∷ xs) same = both_so f _ _ _ _ (same_kinds f scope other writer.Continuous x.target same) (same_drive_kinds f scope other xs same)

pub same_assign_faults : (f : NameId → NameId) (scope other : Scope) (xs : List ContinuousAssignment) → MeansSame f scope other
    → assign_faults other (map (assignment_as f) xs) ≡ map (fault_as f) (assign_faults scope xs)
same_assign_faults f scope other xs same = both_so f _ _ _ _ (same_drives f scope other xs same) (same_drive_kinds f scope other xs same)
