-- Declarations with values and continuous assignments, without places: the same items (IEEE 1364-2005, 6.1 and 6.2.1).
use Rattle.std.proofs.Common.{◌≡◌, ℕ, ◌%◌, ◌^◌, if◌then◌else◌, List, [], ◌∷◌, ◌++◌, map, Option, Some, None, refl, ◌∙◌, ap, ap₂}
use Rattle.std.specs.Option.{option_map}
use Rattle.typed_ir.specs.declared.target_form.TargetForm.{TargetForm}
use Rattle.typed_ir.specs.Sized.{Sized, value_of}
use Rattle.verilog_ast.specs.declared.identifier.Identifier.{Identifier}
use Rattle.verilog_ast.specs.Declarations.{Declared, DeclaredReg, PortDeclaration, InputPort, OutputPort, NextPort}
use Rattle.verilog_ast.specs.Expressions.{Expression, Target, Reference, Joined, NoTarget, Targets}
use Rattle.verilog_ast.specs.Items.{ContinuousAssignment}
use Rattle.verilog_ast.specs.Places.{no_place, target_place}
use Rattle.width_rules.specs.declared.due.Due.TheVariants.{ConstantOnly}
use Rattle.width_rules.specs.Scopes.{Scope}
use Rattle.width_rules.specs.Sizes.{no_signals}
use Rattle.statement_rules.specs.Drives.{SizedDrive, sized_drive}
use Rattle.width_rules.specs.Forms.{target_form}
use Rattle.width_rules.specs.Mentions.{numbered}
use Rattle.width_rules.specs.Names.{target_names}
use Rattle.statement_rules.specs.declared.value_kind.ValueKind.{ValueKind}
use Rattle.statement_rules.specs.declared.value_kind.ValueKind.TheVariants as kind
use Rattle.statement_rules.specs.DeclaredValues.{DeclaredValue, InitialValue, kind_of_net, value_if, values_of, reg_values_of, port_values, name_of, as_assignment, is_net_value, signal_in, due_by, writer_by, all_value_faults, all_value_kinds, declaration_faults, initial_value, declaration_initials}
use Rattle.statement_rules.specs.SizedItems.{drive_item, initial_item, value_item}
use Rattle.statement_rules.proofs.Placed.{drive_with}
use Rattle.version_swap.specs.Unplaced.{unplaced_name, unplaced_expression, unplaced_target, unplaced_declared, unplaced_declared_reg, unplaced_port, unplaced_assignment}
use Rattle.version_swap.specs.UnplacedFindings.{fault_unplaced, value_unplaced, placed_unplaced}
use Rattle.gen_unroll.proofs.MovedLists.{append_so, if_moved}
use Rattle.version_swap.proofs.UnplacedFaults.{both_so, same_place, same_faults}
use Rattle.version_swap.proofs.UnplacedForms.{same_form_of}
use Rattle.version_swap.proofs.UnplacedMentions.{same_target_names, same_numbered}
use Rattle.version_swap.proofs.UnplacedStatements.{same_assigned, same_drive}
use Rattle.version_swap.proofs.UnplacedTargets.{same_target_length, same_target_faults, same_kinds}

-- ---- the names that are declared with a value

value_if_so : (k : ValueKind) (n : Identifier) (x : Option Expression)
    → value_if k (unplaced_name n) (option_map unplaced_expression x) ≡ map value_unplaced (value_if k n x)
value_if_so k n None = refl
value_if_so k n (Some x) = refl

pub same_values : (k : ValueKind) (xs : List Declared) → values_of k (map unplaced_declared xs) ≡ map value_unplaced (values_of k xs)
same_values k [] = refl
same_values k (x ∷ xs) = append_so value_unplaced _ _ _ _ (value_if_so k x.name x.value) (same_values k xs)

pub same_reg_values : (xs : List DeclaredReg) → reg_values_of (map unplaced_declared_reg xs) ≡ map value_unplaced (reg_values_of xs)
same_reg_values [] = refl
same_reg_values (x ∷ xs) = append_so value_unplaced _ _ _ _ (value_if_so kind.Variable x.name x.value) (same_reg_values xs)

pub same_port_values : (p : PortDeclaration) → port_values (unplaced_port p) ≡ map value_unplaced (port_values p)
same_port_values (InputPort at net k n) = refl
same_port_values (OutputPort at net k x) = value_if_so (kind_of_net net) x.name x.value
same_port_values (NextPort x) = value_if_so kind.AsDeclared x.name x.value

-- ---- faults

value_faults_so : (scope : Scope) (xs : List DeclaredValue)
    → all_value_faults scope (map value_unplaced xs) ≡ map fault_unplaced (all_value_faults scope xs)
value_faults_so scope [] = refl
value_faults_so scope (x ∷ xs) =
    both_so _ _ _ _
    (both_so _ _ _ _ (same_target_faults scope ConstantOnly (name_of x)) (same_faults scope (due_by (is_net_value scope x)) x.value))
    (value_faults_so scope xs)

value_kinds_so : (scope : Scope) (xs : List DeclaredValue)
    → all_value_kinds scope (map value_unplaced xs) ≡ map fault_unplaced (all_value_kinds scope xs)
value_kinds_so scope [] = refl
value_kinds_so scope (x ∷ xs) = both_so _ _ _ _ (same_kinds scope (writer_by (is_net_value scope x)) (name_of x)) (value_kinds_so scope xs)

pub same_declaration_faults : (scope : Scope) (xs : List DeclaredValue)
    → declaration_faults scope (map value_unplaced xs) ≡ map fault_unplaced (declaration_faults scope xs)
same_declaration_faults scope xs = both_so _ _ _ _ (value_faults_so scope xs) (value_kinds_so scope xs)

-- ---- values at the beginning

initial_so : (scope : Scope) (x : DeclaredValue) → initial_value scope (value_unplaced x) ≡ initial_value scope x
initial_so scope x =
    ap₂ (λ (z : Sized) (k : ℕ). record { signal = signal_in (scope x.name.name.0); value = value_of z no_signals % 2 ^ k })
    (same_assigned scope _ _ x.value (same_target_length scope (name_of x))) (same_target_length scope (name_of x))

pub same_initials : (scope : Scope) (xs : List DeclaredValue) → declaration_initials scope (map value_unplaced xs) ≡ declaration_initials scope xs
same_initials scope [] = refl
same_initials scope (x ∷ xs) =
    ap₂ (λ (v : InitialValue) (vs : List InitialValue). (if is_net_value scope x then [] else v ∷ []) ++ vs) (initial_so scope x)
    (same_initials scope xs)

-- ---- items

same_target_place : (t : Target) → target_place (unplaced_target t) ≡ no_place
same_target_place (Reference x) = same_place x
same_target_place (Joined at ts) = refl
same_target_place NoTarget = refl
same_target_place (Targets t ts) = same_target_place t

pub same_drive_item : (scope : Scope) (x : ContinuousAssignment) → drive_item scope (unplaced_assignment x) ≡ placed_unplaced (drive_item scope x)
same_drive_item scope x =
    ap₂ (λ (f : TargetForm) (d : SizedDrive). drive_with f d (target_place (unplaced_target x.target))
    (numbered 0 (target_names (unplaced_target x.target))))
    (same_form_of scope x.target) (same_drive scope x)
    ∙ ap₂ (drive_with (target_form scope x.target) (sized_drive scope x)) (same_target_place x.target)
    (ap (numbered 0) (same_target_names x.target) ∙ same_numbered 0 (target_names x.target))

pub same_value_item : (scope : Scope) (x : DeclaredValue) → value_item scope (value_unplaced x) ≡ placed_unplaced (value_item scope x)
same_value_item scope x =
    if_moved placed_unplaced (is_net_value scope x) (drive_item scope (as_assignment x)) (initial_item scope x) _ _
    (same_drive_item scope (as_assignment x)) refl
