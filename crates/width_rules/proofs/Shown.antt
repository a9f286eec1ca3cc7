-- The first of a list that shows a form, for the walks over targets, statements and items of a case.
use Rattle.std.proofs.Common.{◌≡◌, ◌<◌, ℕ, ◌+◌, List, ◌∷◌, map, drop, length, get_or, refl, sym, ◌∙◌, ap}
use Rattle.std.specs.Prelude.{Option, Some, None}
use Rattle.typed_ir.proofs.Lists.{drop_read}
use Rattle.typed_ir.specs.declared.shown_target.ShownTarget.{ShownTarget}
use Rattle.typed_ir.specs.declared.target_form.TargetForm.{TargetForm}
use Rattle.verilog_ast.specs.declared.statement.Arm.{Arm}
use Rattle.verilog_ast.specs.declared.statement.Stmt.{Stmt}
use Rattle.verilog_ast.specs.declared.target.Lhs.{Lhs}
use Rattle.verilog_ast.specs.Views.{target_of, targets_of, statement_of, arm_of, statements_of}
use Rattle.width_rules.specs.Scopes.{Scope}
use Rattle.width_rules.specs.Forms.{first_or, first_part, first_target}

here : {A : Type 0} (all : List A → Option TargetForm) (one : A → Option TargetForm) → ((y : A) (ys : List A) → all (y ∷ ys) ≡ first_or (one y) (all ys))
    → (xs : List A) (k : ℕ) (x : A) (f : TargetForm) (whole : Option TargetForm) → k < length xs → x ≡ get_or xs k x → one x ≡ Some f
    → all (drop k xs) ≡ whole → Some f ≡ whole
here all one step xs k x f whole h is shown left =
    sym (ap (λ (o : Option TargetForm). first_or o (all (drop (k + 1) xs))) shown) ∙ sym (ap all (drop_read xs k x h is) ∙ step x (drop (k + 1) xs)) ∙ left

later : {A : Type 0} (all : List A → Option TargetForm) (one : A → Option TargetForm) → ((y : A) (ys : List A) → all (y ∷ ys) ≡ first_or (one y) (all ys))
    → (xs : List A) (k : ℕ) (x : A) (whole : Option TargetForm) → k < length xs → x ≡ get_or xs k x → one x ≡ None
    → all (drop k xs) ≡ whole → all (drop (k + 1) xs) ≡ whole
later all one step xs k x whole h is nothing left =
    sym (ap (λ (o : Option TargetForm). first_or o (all (drop (k + 1) xs))) nothing) ∙ sym (ap all (drop_read xs k x h is) ∙ step x (drop (k + 1) xs)) ∙ left

pub part_here : (scope : Scope) (xs : List Lhs) (k : ℕ) (x : Lhs) (f : TargetForm) (whole : Option TargetForm) → k < length xs → x ≡ get_or xs k x → first_part scope (target_of x) ≡ Some f
    → first_part scope (targets_of (map target_of (drop k xs))) ≡ whole → Some f ≡ whole
part_here scope = here (λ ys. first_part scope (targets_of (map target_of ys))) (λ y. first_part scope (target_of y)) (λ y ys. refl)

pub part_later : (scope : Scope) (xs : List Lhs) (k : ℕ) (x : Lhs) (whole : Option TargetForm) → k < length xs → x ≡ get_or xs k x → first_part scope (target_of x) ≡ None
    → first_part scope (targets_of (map target_of (drop k xs))) ≡ whole → first_part scope (targets_of (map target_of (drop (k + 1) xs))) ≡ whole
part_later scope = later (λ ys. first_part scope (targets_of (map target_of ys))) (λ y. first_part scope (target_of y)) (λ y ys. refl)

pub target_here : (scope : Scope) (xs : List Stmt) (k : ℕ) (x : Stmt) (f : TargetForm) (whole : Option TargetForm) → k < length xs → x ≡ get_or xs k x → first_target scope (statement_of x) ≡ Some f
    → first_target scope (statements_of (map statement_of (drop k xs))) ≡ whole → Some f ≡ whole
target_here scope = here (λ ys. first_target scope (statements_of (map statement_of ys))) (λ y. first_target scope (statement_of y)) (λ y ys. refl)

pub target_later : (scope : Scope) (xs : List Stmt) (k : ℕ) (x : Stmt) (whole : Option TargetForm) → k < length xs → x ≡ get_or xs k x → first_target scope (statement_of x) ≡ None
    → first_target scope (statements_of (map statement_of (drop k xs))) ≡ whole → first_target scope (statements_of (map statement_of (drop (k + 1) xs))) ≡ whole
target_later scope = later (λ ys. first_target scope (statements_of (map statement_of ys))) (λ y. first_target scope (statement_of y)) (λ y ys. refl)

pub arm_here : (scope : Scope) (xs : List Arm) (k : ℕ) (x : Arm) (f : TargetForm) (whole : Option TargetForm) → k < length xs → x ≡ get_or xs k x → first_target scope (arm_of x) ≡ Some f
    → first_target scope (statements_of (map arm_of (drop k xs))) ≡ whole → Some f ≡ whole
arm_here scope = here (λ ys. first_target scope (statements_of (map arm_of ys))) (λ y. first_target scope (arm_of y)) (λ y ys. refl)

pub arm_later : (scope : Scope) (xs : List Arm) (k : ℕ) (x : Arm) (whole : Option TargetForm) → k < length xs → x ≡ get_or xs k x → first_target scope (arm_of x) ≡ None
    → first_target scope (statements_of (map arm_of (drop k xs))) ≡ whole → first_target scope (statements_of (map arm_of (drop (k + 1) xs))) ≡ whole
arm_later scope = later (λ ys. first_target scope (statements_of (map arm_of ys))) (λ y. first_target scope (arm_of y)) (λ y ys. refl)

-- what a block shows, by its parts
abbrev pub shown_with : ℕ → TargetForm → ShownTarget
shown_with k form = record { number = k; form = form }
