-- A statement without a fault, sized, is legal for the signals of its scope.
use Rattle.std.proofs.Common.{◌≡◌, ℕ, ◌%◌, ◌^◌, ◌≤◌, ◌&&◌, max, Bool, true, false, List, [], ◌∷◌, ◌++◌, map, refl, arith}
use Rattle.std.proofs.lemmas.Bool.{and_from}
use Rattle.std.proofs.Math.Nat.{le-max_left, le-max_right}
use Rattle.typed_ir.specs.Sized.{Sized}
use Rattle.typed_ir.specs.Stmts as s
use Rattle.typed_ir.specs.Stmts.{SizedTarget, SizedItem, SizedStmt, SizedArms, is_sized, are_targets, are_items, is_legal, are_legal_arms}
use Rattle.verilog_ast.specs.Expressions.{Expression}
use Rattle.verilog_ast.specs.Statements.{CaseLabel, DontCare, Compared, Statement, Block, If, IfElse, Case, Assignment, Null, Default, Match, NoStatement, Statements}
use Rattle.width_rules.specs.declared.due.Due.{Due}
use Rattle.width_rules.specs.declared.due.Due.TheVariants.{AnyValue}
use Rattle.width_rules.specs.declared.writer.Writer.{Writer}
use Rattle.width_rules.specs.declared.writer.Writer.TheVariants as writer
use Rattle.width_rules.specs.Faults.{faults}
use Rattle.width_rules.specs.Opened.{own}
use Rattle.width_rules.specs.Scopes.{Scope}
use Rattle.width_rules.specs.Signs.{is_signed}
use Rattle.width_rules.specs.Sizes.{length, push, literal_length}
use Rattle.statement_rules.specs.Statements.{assigned, assignment, label_length, labels_length, items_length, items_signed, label_at, item_before, default_or, sized_statement, sized_arms, sized_default, label_faults, labels_faults, expression_faults, second_default, is_default_or, item_faults, arm_faults, statement_faults}
use Rattle.statement_rules.specs.Targets.{target_length, parts, target_faults}
use Rattle.width_rules.proofs.Reading.{left_none, right_none}
use Rattle.statement_rules.specs.Fitting.{FitsScope}
use Rattle.statement_rules.specs.Written.{IsWritten, IsLabelWritten, AreLabelsWritten, IsStatementWritten}
use Rattle.statement_rules.proofs.Bounds.{IsLong, max_most}
use Rattle.statement_rules.proofs.Forms.{form_sized, own_sized}
use Rattle.statement_rules.proofs.Lengths.{is_long, total_long}
use Rattle.statement_rules.proofs.Operands.{constant_fits}
use Rattle.statement_rules.proofs.Targets.{target_long, target_parts}

-- ---- assignments

pub assigned_sized : (scope : Scope) (widths : List ℕ) (due : Due) (width : ℕ) (x : Expression) → FitsScope scope widths → IsWritten x → faults scope due x ≡ []
    → width ≤ 128 → is_sized (assigned scope width x) widths ≡ true
assigned_sized scope widths due width x ok w h few =
    form_sized scope widths due x (max width (length scope x)) (is_signed scope x) ok w h (le-max_right width (length scope x))
    (max_most width (length scope x) 128 few (is_long scope widths due x ok w h).most)

assignment_legal : (by : Writer) (ts : List SizedTarget) (x : Sized) (widths : List ℕ) → are_targets ts widths ≡ true → is_sized x widths ≡ true
    → is_legal (assignment by ts x) widths ≡ true
assignment_legal writer.Nothing ts x widths h k = and_from (are_targets ts widths) (is_sized x widths) h k
assignment_legal writer.Continuous ts x widths h k = and_from (are_targets ts widths) (is_sized x widths) h k
assignment_legal writer.Combinational ts x widths h k = and_from (are_targets ts widths) (is_sized x widths) h k
assignment_legal writer.Clocked ts x widths h k = and_from (are_targets ts widths) (is_sized x widths) h k

-- ---- labels

label_long : (scope : Scope) (widths : List ℕ) (l : CaseLabel) → FitsScope scope widths → IsLabelWritten l → label_faults scope l ≡ [] → IsLong (label_length scope l)
label_long scope widths (DontCare at x) ok w h = total_long at (literal_length x.size) h
label_long scope widths (Compared x) ok w h = is_long scope widths AnyValue x ok w h

labels_few : (scope : Scope) (widths : List ℕ) (ls : List CaseLabel) → FitsScope scope widths → AreLabelsWritten ls → labels_faults scope ls ≡ [] → labels_length scope ls ≤ 128
labels_few scope widths [] ok w h = omega arith
labels_few scope widths (l ∷ ls) ok w h =
    max_most (label_length scope l) (labels_length scope ls) 128
    (label_long scope widths l ok w.0 (left_none (label_faults scope l) (labels_faults scope ls) h)).most
    (labels_few scope widths ls ok w.1 (right_none (label_faults scope l) (labels_faults scope ls) h))

items_few : (scope : Scope) (widths : List ℕ) (x : Statement) → FitsScope scope widths → IsStatementWritten x → expression_faults scope x ≡ [] → items_length scope x ≤ 128
items_few scope widths (Match ls body) ok w h = labels_few scope widths ls ok w.0 (left_none (labels_faults scope ls) (expression_faults scope body) h)
items_few scope widths (Statements x xs) ok w h =
    max_most (items_length scope x) (items_length scope xs) 128
    (items_few scope widths x ok w.0 (left_none (expression_faults scope x) (expression_faults scope xs) h))
    (items_few scope widths xs ok w.1 (right_none (expression_faults scope x) (expression_faults scope xs) h))
items_few scope widths other ok w h = omega arith

label_sized : (scope : Scope) (widths : List ℕ) (width : ℕ) (signed : Bool) (l : CaseLabel) → FitsScope scope widths → IsLabelWritten l → label_faults scope l ≡ []
    → IsLong width → label_length scope l ≤ width → is_sized (label_at scope width signed l).item widths ≡ true
label_sized scope widths width signed (DontCare at x) ok w h long fits =
    (constant_fits (literal_length x.size) (x.value % 2 ^ literal_length x.size) width false widths long).sized
label_sized scope widths width signed (Compared x) ok w h long fits = form_sized scope widths AnyValue x width signed ok w h fits long.most

labels_sized : (scope : Scope) (widths : List ℕ) (width : ℕ) (signed : Bool) (ls : List CaseLabel) → FitsScope scope widths → AreLabelsWritten ls → labels_faults scope ls ≡ []
    → IsLong width → labels_length scope ls ≤ width → are_items (map (label_at scope width signed) ls) widths ≡ true
labels_sized scope widths width signed [] ok w h long fits = refl
labels_sized scope widths width signed (l ∷ ls) ok w h long fits =
    and_from (is_sized (label_at scope width signed l).item widths) (are_items (map (label_at scope width signed) ls) widths)
    (label_sized scope widths width signed l ok w.0 (left_none (label_faults scope l) (labels_faults scope ls) h) long
    (omega (arith, fits, le-max_left (label_length scope l) (labels_length scope ls))))
    (labels_sized scope widths width signed ls ok w.1 (right_none (label_faults scope l) (labels_faults scope ls) h) long
    (omega (arith, fits, le-max_right (label_length scope l) (labels_length scope ls))))

-- ---- the items of a case

before_legal : (scope : Scope) (widths : List ℕ) (width : ℕ) (signed : Bool) (x : Statement) (body : SizedStmt) (rest : SizedArms) → FitsScope scope widths → IsStatementWritten x
    → expression_faults scope x ≡ [] → IsLong width → items_length scope x ≤ width → is_legal body widths ≡ true → are_legal_arms rest widths ≡ true
    → are_legal_arms (item_before scope width signed x body rest) widths ≡ true
before_legal scope widths width signed (Match ls y) body rest ok w h long fits p q =
    and_from (are_items (map (label_at scope width signed) ls) widths) (is_legal body widths && are_legal_arms rest widths)
    (labels_sized scope widths width signed ls ok w.0 (left_none (labels_faults scope ls) (expression_faults scope y) h) long fits)
    (and_from (is_legal body widths) (are_legal_arms rest widths) p q)
before_legal scope widths width signed other body rest ok w h long fits p q = q

or_legal : (x : Statement) (body rest : SizedStmt) (widths : List ℕ) → is_legal body widths ≡ true → is_legal rest widths ≡ true → is_legal (default_or x body rest) widths ≡ true
or_legal (Default at y) body rest widths p q = p
or_legal other body rest widths p q = q

-- ---- statements

two_legal : (c : Sized) (a b : SizedStmt) (widths : List ℕ) → is_sized c widths ≡ true → is_legal a widths ≡ true → is_legal b widths ≡ true → is_legal (s.If c a b) widths ≡ true
two_legal c a b widths h p q = and_from (is_sized c widths) (is_legal a widths && is_legal b widths) h (and_from (is_legal a widths) (is_legal b widths) p q)

mutual
  pub statement_legal : (scope : Scope) (widths : List ℕ) (by : Writer) (x : Statement) → FitsScope scope widths → IsStatementWritten x → expression_faults scope x ≡ []
      → item_faults scope by x ≡ [] → is_legal (sized_statement scope by x) widths ≡ true
  statement_legal scope widths by (Block at label body) ok w h k = statement_legal scope widths by body ok w h k
  statement_legal scope widths by (If at c x) ok w h k =
      two_legal (own scope c) (sized_statement scope by x) s.Skip widths (own_sized scope widths AnyValue c ok w.0 (left_none (faults scope AnyValue c) (expression_faults scope x) h))
      (statement_legal scope widths by x ok w.1 (right_none (faults scope AnyValue c) (expression_faults scope x) h) k) refl
  statement_legal scope widths by (IfElse at c x y) ok w h k =
      let both : expression_faults scope x ++ expression_faults scope y ≡ [] = right_none (faults scope AnyValue c) (expression_faults scope x ++ expression_faults scope y) h in
      two_legal (own scope c) (sized_statement scope by x) (sized_statement scope by y) widths
      (own_sized scope widths AnyValue c ok w.0 (left_none (faults scope AnyValue c) (expression_faults scope x ++ expression_faults scope y) h))
      (statement_legal scope widths by x ok w.1.0 (left_none (expression_faults scope x) (expression_faults scope y) both) (left_none (item_faults scope by x) (item_faults scope by y) k))
      (statement_legal scope widths by y ok w.1.1 (right_none (expression_faults scope x) (expression_faults scope y) both) (right_none (item_faults scope by x) (item_faults scope by y) k))
  statement_legal scope widths by (Case at kind x items) ok w h k =
      let width : ℕ = max (length scope x) (items_length scope items) in
      let signed : Bool = is_signed scope x && items_signed scope items in
      let first : faults scope AnyValue x ≡ [] = left_none (faults scope AnyValue x) (expression_faults scope items) h in
      let second : expression_faults scope items ≡ [] = right_none (faults scope AnyValue x) (expression_faults scope items) h in
      let own_long : IsLong (length scope x) = is_long scope widths AnyValue x ok w.0 first in
      let few : width ≤ 128 = max_most (length scope x) (items_length scope items) 128 own_long.most (items_few scope widths items ok w.1 second) in
      let long : IsLong width = record { least = omega (arith, own_long.least, le-max_left (length scope x) (items_length scope items)); most = few } in
      and_from (is_sized (push scope x width signed) widths) (are_legal_arms (sized_arms scope by width signed (sized_default scope by items) items) widths)
      (form_sized scope widths AnyValue x width signed ok w.0 first (le-max_left (length scope x) (items_length scope items)) few)
      (arms_legal scope widths by width signed false (sized_default scope by items) items ok w.1 second k long (le-max_right (length scope x) (items_length scope items))
      (default_legal scope widths by false items ok w.1 second k))
  statement_legal scope widths by (Assignment t x) ok w h k =
      let first : target_faults scope AnyValue t ≡ [] = left_none (target_faults scope AnyValue t) (faults scope AnyValue x) h in
      assignment_legal by (parts scope 0 t) (assigned scope (target_length scope t) x) widths (target_parts scope widths AnyValue by t ok w.0 first k)
      (assigned_sized scope widths AnyValue (target_length scope t) x ok w.1 (right_none (target_faults scope AnyValue t) (faults scope AnyValue x) h)
      (target_long scope widths AnyValue by t ok w.0 first k).most)
  statement_legal scope widths by (Null at) ok w h k = refl
  statement_legal scope widths by (Default at body) ok w h k = statement_legal scope widths by body ok w h k
  statement_legal scope widths by (Match ls body) ok w h k =
      statement_legal scope widths by body ok w.1 (right_none (labels_faults scope ls) (expression_faults scope body) h) k
  statement_legal scope widths by NoStatement ok w h k = refl
  statement_legal scope widths by (Statements x xs) ok w h k =
      and_from (is_legal (sized_statement scope by x) widths) (is_legal (sized_statement scope by xs) widths)
      (statement_legal scope widths by x ok w.0 (left_none (expression_faults scope x) (expression_faults scope xs) h) (left_none (item_faults scope by x) (item_faults scope by xs) k))
      (statement_legal scope widths by xs ok w.1 (right_none (expression_faults scope x) (expression_faults scope xs) h) (right_none (item_faults scope by x) (item_faults scope by xs) k))

  arms_legal : (scope : Scope) (widths : List ℕ) (by : Writer) (width : ℕ) (signed seen : Bool) (otherwise : SizedStmt) (x : Statement) → FitsScope scope widths → IsStatementWritten x
      → expression_faults scope x ≡ [] → arm_faults scope by seen x ≡ [] → IsLong width → items_length scope x ≤ width → is_legal otherwise widths ≡ true
      → are_legal_arms (sized_arms scope by width signed otherwise x) widths ≡ true
  arms_legal scope widths by width signed seen otherwise (Statements x xs) ok w h k long fits p =
      let rest : item_faults scope by x ++ arm_faults scope by (is_default_or seen x) xs ≡ [] =
      right_none (second_default seen x) (item_faults scope by x ++ arm_faults scope by (is_default_or seen x) xs) k in
      let first : expression_faults scope x ≡ [] = left_none (expression_faults scope x) (expression_faults scope xs) h in
      before_legal scope widths width signed x (sized_statement scope by x) (sized_arms scope by width signed otherwise xs) ok w.0 first long
      (omega (arith, fits, le-max_left (items_length scope x) (items_length scope xs)))
      (statement_legal scope widths by x ok w.0 first (left_none (item_faults scope by x) (arm_faults scope by (is_default_or seen x) xs) rest))
      (arms_legal scope widths by width signed (is_default_or seen x) otherwise xs ok w.1 (right_none (expression_faults scope x) (expression_faults scope xs) h)
      (right_none (item_faults scope by x) (arm_faults scope by (is_default_or seen x) xs) rest) long
      (omega (arith, fits, le-max_right (items_length scope x) (items_length scope xs))) p)
  arms_legal scope widths by width signed seen otherwise other ok w h k long fits p = p

  default_legal : (scope : Scope) (widths : List ℕ) (by : Writer) (seen : Bool) (x : Statement) → FitsScope scope widths → IsStatementWritten x → expression_faults scope x ≡ []
      → arm_faults scope by seen x ≡ [] → is_legal (sized_default scope by x) widths ≡ true
  default_legal scope widths by seen (Statements x xs) ok w h k =
      let rest : item_faults scope by x ++ arm_faults scope by (is_default_or seen x) xs ≡ [] =
      right_none (second_default seen x) (item_faults scope by x ++ arm_faults scope by (is_default_or seen x) xs) k in
      or_legal x (sized_statement scope by x) (sized_default scope by xs) widths
      (statement_legal scope widths by x ok w.0 (left_none (expression_faults scope x) (expression_faults scope xs) h) (left_none (item_faults scope by x) (arm_faults scope by (is_default_or seen x) xs) rest))
      (default_legal scope widths by (is_default_or seen x) xs ok w.1 (right_none (expression_faults scope x) (expression_faults scope xs) h)
      (right_none (item_faults scope by x) (arm_faults scope by (is_default_or seen x) xs) rest))
  default_legal scope widths by seen other ok w h k = refl

pub legal : (scope : Scope) (widths : List ℕ) (by : Writer) (x : Statement) → FitsScope scope widths → IsStatementWritten x → statement_faults scope by x ≡ []
    → is_legal (sized_statement scope by x) widths ≡ true
legal scope widths by x ok w h =
    statement_legal scope widths by x ok w (left_none (expression_faults scope x) (item_faults scope by x) h) (right_none (expression_faults scope x) (item_faults scope by x) h)
