-- One more target, statement, item, label or assignment of a list, for the walks over them.
use Rattle.std.proofs.Common.{◌≡◌, ◌<◌, ℕ, ◌+◌, Bool, List, [], ◌++◌, map, drop, length, get_or, refl, sym, subst, append_assoc}
use Rattle.ls_text.specs.declared.fault.Fault.{Fault}
use Rattle.ls_text.specs.declared.refusal.Refusal.{Refusal}
use Rattle.verilog_ast.specs.declared.continuous.Continuous.{Continuous}
use Rattle.verilog_ast.specs.declared.label.Label.{Label}
use Rattle.verilog_ast.specs.declared.statement.Arm.{Arm}
use Rattle.verilog_ast.specs.declared.statement.Stmt.{Stmt}
use Rattle.verilog_ast.specs.declared.target.Lhs.{Lhs}
use Rattle.verilog_ast.specs.Statements.{Statement}
use Rattle.verilog_ast.specs.Views.{assignment_of, label_of, arm_of, statement_of, statements_of, target_of, targets_of}
use Rattle.width_rules.specs.declared.writer.Writer.{Writer}
use Rattle.width_rules.specs.declared.writer.Writer.TheVariants as writer
use Rattle.width_rules.specs.declared.due.Due.{Due}
use Rattle.width_rules.specs.Scopes.{Scope}
use Rattle.width_rules.specs.Faults.{IsFirst}
use Rattle.statement_rules.specs.Targets.{target_faults, kind_faults}
use Rattle.statement_rules.specs.Statements.{label_faults, labels_faults, expression_faults, item_faults, arm_faults, second_default, is_default_or}
use Rattle.statement_rules.specs.Drives.{drive_faults, all_drive_faults, all_kind_faults}
use Rattle.width_rules.proofs.Firsts.{earlier}
use Rattle.statement_rules.proofs.Walks.{head_is, ahead, refused_here}

pub target_ahead : (scope : Scope) (due : Due) (xs : List Lhs) (k : ℕ) (x : Lhs) → k < length xs → x ≡ get_or xs k x → target_faults scope due (target_of x) ≡ []
    → target_faults scope due (targets_of (map target_of (drop (k + 1) xs))) ≡ target_faults scope due (targets_of (map target_of (drop k xs)))
target_ahead scope due xs k x = ahead target_of (λ ys. target_faults scope due (targets_of ys)) (target_faults scope due) (λ y ys. refl) xs k x

pub target_fault : (scope : Scope) (due : Due) (xs : List Lhs) (k : ℕ) (x : Lhs) (r : Refusal) → k < length xs → x ≡ get_or xs k x
    → IsFirst (target_faults scope due (target_of x)) r → IsFirst (target_faults scope due (targets_of (map target_of (drop k xs)))) r
target_fault scope due xs k x r = refused_here target_of (λ ys. target_faults scope due (targets_of ys)) (target_faults scope due) (λ y ys. refl) xs k x r

pub kind_ahead : (scope : Scope) (by : Writer) (xs : List Lhs) (k : ℕ) (x : Lhs) → k < length xs → x ≡ get_or xs k x → kind_faults scope by (target_of x) ≡ []
    → kind_faults scope by (targets_of (map target_of (drop (k + 1) xs))) ≡ kind_faults scope by (targets_of (map target_of (drop k xs)))
kind_ahead scope by xs k x = ahead target_of (λ ys. kind_faults scope by (targets_of ys)) (kind_faults scope by) (λ y ys. refl) xs k x

pub kind_fault : (scope : Scope) (by : Writer) (xs : List Lhs) (k : ℕ) (x : Lhs) (r : Refusal) → k < length xs → x ≡ get_or xs k x
    → IsFirst (kind_faults scope by (target_of x)) r → IsFirst (kind_faults scope by (targets_of (map target_of (drop k xs)))) r
kind_fault scope by xs k x r = refused_here target_of (λ ys. kind_faults scope by (targets_of ys)) (kind_faults scope by) (λ y ys. refl) xs k x r

pub label_ahead : (scope : Scope) (xs : List Label) (k : ℕ) (x : Label) → k < length xs → x ≡ get_or xs k x → label_faults scope (label_of x) ≡ []
    → labels_faults scope (map label_of (drop (k + 1) xs)) ≡ labels_faults scope (map label_of (drop k xs))
label_ahead scope xs k x = ahead label_of (labels_faults scope) (label_faults scope) (λ y ys. refl) xs k x

pub label_fault : (scope : Scope) (xs : List Label) (k : ℕ) (x : Label) (r : Refusal) → k < length xs → x ≡ get_or xs k x
    → IsFirst (label_faults scope (label_of x)) r → IsFirst (labels_faults scope (map label_of (drop k xs))) r
label_fault scope xs k x r = refused_here label_of (labels_faults scope) (label_faults scope) (λ y ys. refl) xs k x r

pub statement_ahead : (scope : Scope) (xs : List Stmt) (k : ℕ) (x : Stmt) → k < length xs → x ≡ get_or xs k x → expression_faults scope (statement_of x) ≡ []
    → expression_faults scope (statements_of (map statement_of (drop (k + 1) xs))) ≡ expression_faults scope (statements_of (map statement_of (drop k xs)))
statement_ahead scope xs k x = ahead statement_of (λ ys. expression_faults scope (statements_of ys)) (expression_faults scope) (λ y ys. refl) xs k x

pub statement_fault : (scope : Scope) (xs : List Stmt) (k : ℕ) (x : Stmt) (r : Refusal) → k < length xs → x ≡ get_or xs k x
    → IsFirst (expression_faults scope (statement_of x)) r → IsFirst (expression_faults scope (statements_of (map statement_of (drop k xs)))) r
statement_fault scope xs k x r = refused_here statement_of (λ ys. expression_faults scope (statements_of ys)) (expression_faults scope) (λ y ys. refl) xs k x r

pub arm_ahead : (scope : Scope) (xs : List Arm) (k : ℕ) (x : Arm) → k < length xs → x ≡ get_or xs k x → expression_faults scope (arm_of x) ≡ []
    → expression_faults scope (statements_of (map arm_of (drop (k + 1) xs))) ≡ expression_faults scope (statements_of (map arm_of (drop k xs)))
arm_ahead scope xs k x = ahead arm_of (λ ys. expression_faults scope (statements_of ys)) (expression_faults scope) (λ y ys. refl) xs k x

pub arm_fault : (scope : Scope) (xs : List Arm) (k : ℕ) (x : Arm) (r : Refusal) → k < length xs → x ≡ get_or xs k x
    → IsFirst (expression_faults scope (arm_of x)) r → IsFirst (expression_faults scope (statements_of (map arm_of (drop k xs)))) r
arm_fault scope xs k x r = refused_here arm_of (λ ys. expression_faults scope (statements_of ys)) (expression_faults scope) (λ y ys. refl) xs k x r

pub item_ahead : (scope : Scope) (by : Writer) (xs : List Stmt) (k : ℕ) (x : Stmt) → k < length xs → x ≡ get_or xs k x → item_faults scope by (statement_of x) ≡ []
    → item_faults scope by (statements_of (map statement_of (drop (k + 1) xs))) ≡ item_faults scope by (statements_of (map statement_of (drop k xs)))
item_ahead scope by xs k x = ahead statement_of (λ ys. item_faults scope by (statements_of ys)) (item_faults scope by) (λ y ys. refl) xs k x

pub item_fault : (scope : Scope) (by : Writer) (xs : List Stmt) (k : ℕ) (x : Stmt) (r : Refusal) → k < length xs → x ≡ get_or xs k x
    → IsFirst (item_faults scope by (statement_of x)) r → IsFirst (item_faults scope by (statements_of (map statement_of (drop k xs)))) r
item_fault scope by xs k x r = refused_here statement_of (λ ys. item_faults scope by (statements_of ys)) (item_faults scope by) (λ y ys. refl) xs k x r

pub drive_ahead : (scope : Scope) (xs : List Continuous) (k : ℕ) (x : Continuous) → k < length xs → x ≡ get_or xs k x → drive_faults scope (assignment_of x) ≡ []
    → all_drive_faults scope (map assignment_of (drop (k + 1) xs)) ≡ all_drive_faults scope (map assignment_of (drop k xs))
drive_ahead scope xs k x = ahead assignment_of (all_drive_faults scope) (drive_faults scope) (λ y ys. refl) xs k x

pub drive_fault : (scope : Scope) (xs : List Continuous) (k : ℕ) (x : Continuous) (r : Refusal) → k < length xs → x ≡ get_or xs k x
    → IsFirst (drive_faults scope (assignment_of x)) r → IsFirst (all_drive_faults scope (map assignment_of (drop k xs))) r
drive_fault scope xs k x r = refused_here assignment_of (all_drive_faults scope) (drive_faults scope) (λ y ys. refl) xs k x r

pub driven_ahead : (scope : Scope) (xs : List Continuous) (k : ℕ) (x : Continuous) → k < length xs → x ≡ get_or xs k x
    → kind_faults scope writer.Continuous (target_of x.target) ≡ []
    → all_kind_faults scope (map assignment_of (drop (k + 1) xs)) ≡ all_kind_faults scope (map assignment_of (drop k xs))
driven_ahead scope xs k x = ahead assignment_of (all_kind_faults scope) (λ y. kind_faults scope writer.Continuous y.target) (λ y ys. refl) xs k x

pub driven_fault : (scope : Scope) (xs : List Continuous) (k : ℕ) (x : Continuous) (r : Refusal) → k < length xs → x ≡ get_or xs k x
    → IsFirst (kind_faults scope writer.Continuous (target_of x.target)) r → IsFirst (all_kind_faults scope (map assignment_of (drop k xs))) r
driven_fault scope xs k x r = refused_here assignment_of (all_kind_faults scope) (λ y. kind_faults scope writer.Continuous y.target) (λ y ys. refl) xs k x r

-- of the items of a case, where a default stood before them or not
pub checked_fault : (scope : Scope) (by : Writer) (xs : List Arm) (k : ℕ) (x : Arm) (before : Bool) (r : Refusal) → k < length xs → x ≡ get_or xs k x
    → IsFirst (second_default before (arm_of x) ++ item_faults scope by (arm_of x)) r → IsFirst (arm_faults scope by before (statements_of (map arm_of (drop k xs)))) r
checked_fault scope by xs k x before r h is first =
    let rest = arm_faults scope by (is_default_or before (arm_of x)) (statements_of (map arm_of (drop (k + 1) xs))) in
    let one = second_default before (arm_of x) in
    subst (λ (ys : List Statement). IsFirst (arm_faults scope by before (statements_of ys)) r) (sym (head_is arm_of xs k x h is))
    (subst (λ (fs : List Fault). IsFirst fs r) (append_assoc one (item_faults scope by (arm_of x)) rest)
    (earlier (one ++ item_faults scope by (arm_of x)) rest r first))
