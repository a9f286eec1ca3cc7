-- Nets that have values are driven by them.
use Rattle.std.proofs.Common.{◌≡◌, Bool, true, List, [], ◌∷◌, ◌++◌, refl, sym, ◌∙◌, ap}
use Rattle.typed_ir.specs.Orders.{Each}
use Rattle.verilog_ast.specs.Items.{ContinuousAssignment}
use Rattle.width_rules.specs.declared.due.Due.TheVariants.{ConstantOnly}
use Rattle.width_rules.specs.declared.writer.Writer.TheVariants as writer
use Rattle.width_rules.specs.Scopes.{Scope}
use Rattle.width_rules.specs.Faults.{faults}
use Rattle.width_rules.proofs.Firsts.{neither}
use Rattle.width_rules.proofs.Reading.{left_none, right_none}
use Rattle.statement_rules.specs.Drives.{drive_faults, assign_faults}
use Rattle.statement_rules.specs.Targets.{target_faults, kind_faults}
use Rattle.statement_rules.specs.DeclaredValues.{DeclaredValue, name_of, as_assignment, is_net_value, due_by, writer_by, value_faults, value_kinds, all_value_faults, all_value_kinds, declaration_faults}

-- an item of one assignment
alone : (scope : Scope) (x : ContinuousAssignment) → drive_faults scope x ≡ [] → kind_faults scope writer.Continuous x.target ≡ [] → assign_faults scope (x ∷ []) ≡ []
alone scope x h k =
    neither (drive_faults scope x ++ []) (kind_faults scope writer.Continuous x.target ++ [])
    (neither (drive_faults scope x) [] h refl) (neither (kind_faults scope writer.Continuous x.target) [] k refl)

driven : (scope : Scope) (x : DeclaredValue) → value_faults scope x ≡ [] → value_kinds scope x ≡ [] → is_net_value scope x ≡ true
    → assign_faults scope (as_assignment x ∷ []) ≡ []
driven scope x h k net =
    alone scope (as_assignment x)
    (ap (λ (b : Bool). target_faults scope ConstantOnly (name_of x) ++ faults scope (due_by b) x.value) (sym net) ∙ h)
    (ap (λ (b : Bool). kind_faults scope (writer_by b) (name_of x)) (sym net) ∙ k)

each_driven : (scope : Scope) (xs : List DeclaredValue) → all_value_faults scope xs ≡ [] → all_value_kinds scope xs ≡ []
    → Each (λ x. is_net_value scope x ≡ true → assign_faults scope (as_assignment x ∷ []) ≡ []) xs
each_driven scope [] h k = tt
each_driven scope (x ∷ xs) h k = (
  driven scope x (left_none (value_faults scope x) (all_value_faults scope xs) h) (left_none (value_kinds scope x) (all_value_kinds scope xs) k),
  each_driven scope xs (right_none (value_faults scope x) (all_value_faults scope xs) h) (right_none (value_kinds scope x) (all_value_kinds scope xs) k),
)

pub nets_driven : (scope : Scope) (xs : List DeclaredValue) → declaration_faults scope xs ≡ []
    → Each (λ x. is_net_value scope x ≡ true → assign_faults scope (as_assignment x ∷ []) ≡ []) xs
nets_driven scope xs h =
    each_driven scope xs (left_none (all_value_faults scope xs) (all_value_kinds scope xs) h) (right_none (all_value_faults scope xs) (all_value_kinds scope xs) h)
