-- Declarations with values and continuous assignments under other names: the same items (IEEE 1364-2005, 6.1 and 6.2.1).
use Rattle.std.proofs.Common.{◌≡◌, ℕ, ◌%◌, ◌^◌, Bool, if◌then◌else◌, List, [], ◌∷◌, ◌++◌, map, Option, Some, None, refl, ◌∙◌, ap, ap₂}
use Rattle.std.specs.Option.{option_map}
use Rattle.ls_text.specs.declared.name_id.NameId.{NameId}
use Rattle.typed_ir.specs.declared.target_form.TargetForm.{TargetForm}
use Rattle.typed_ir.specs.Sized.{Sized, value_of}
use Rattle.typed_ir.specs.Items.{Initial}
use Rattle.verilog_ast.specs.declared.identifier.Identifier.{Identifier}
use Rattle.verilog_ast.specs.Declarations.{Declared, DeclaredReg, PortDeclaration, InputPort, OutputPort, NextPort}
use Rattle.verilog_ast.specs.Expressions.{Expression, Target, Reference, Joined, NoTarget, Targets}
use Rattle.verilog_ast.specs.Items.{ContinuousAssignment}
use Rattle.verilog_ast.specs.Places.{target_place}
use Rattle.verilog_ast.specs.Renamed.{renamed_identifier}
use Rattle.verilog_ast.specs.Renaming.{expression_as, target_as, declared_as, declared_reg_as, port_as, assignment_as}
use Rattle.width_rules.specs.declared.due.Due.TheVariants.{ConstantOnly}
use Rattle.width_rules.specs.Faults.{faults}
use Rattle.width_rules.specs.Renaming.{MeansSame, fault_as}
use Rattle.width_rules.specs.Scopes.{Meaning, Scope}
use Rattle.width_rules.specs.Sizes.{no_signals}
use Rattle.width_rules.proofs.RenamedFaults.{both_so, same_faults, same_place}
use Rattle.statement_rules.specs.Drives.{SizedDrive, sized_drive}
use Rattle.statement_rules.specs.Statements.{assigned}
use Rattle.statement_rules.specs.Targets.{target_length, kind_faults}
use Rattle.statement_rules.proofs.RenamedStatements.{same_assigned, same_drive}
use Rattle.statement_rules.proofs.RenamedTargets.{same_target_length, same_target_faults, same_kinds}
use Rattle.width_rules.specs.Forms.{target_form}
use Rattle.width_rules.specs.Mentions.{numbered}
use Rattle.width_rules.specs.Names.{target_names}
use Rattle.statement_rules.specs.declared.value_kind.ValueKind.{ValueKind}
use Rattle.statement_rules.specs.declared.value_kind.ValueKind.TheVariants as kind
use Rattle.statement_rules.specs.DeclaredValues.{DeclaredValue, InitialValue, kind_of_net, value_if, values_of, reg_values_of, port_values, name_of, as_assignment, is_net, is_net_by, is_net_value, signal_in, due_by, writer_by, all_value_faults, all_value_kinds, declaration_faults, initial_value, declaration_initials}
use Rattle.statement_rules.specs.SizedItems.{drive_item, initial_item, value_item}
use Rattle.statement_rules.proofs.Placed.{drive_with}
use Rattle.gen_unroll.proofs.MovedLists.{append_so, if_moved}
use Rattle.version_swap.specs.RenamedFindings.{value_as, placed_as}
use Rattle.version_swap.proofs.RenamedForms.{same_form_of}
use Rattle.version_swap.proofs.RenamedMentions.{same_target_names, same_numbered}

-- ---- the names that are declared with a value

value_if_so : (f : NameId → NameId) (k : ValueKind) (n : Identifier) (x : Option Expression)
    → value_if k (renamed_identifier f n) (option_map (expression_as f) x) ≡ map (value_as f) (value_if k n x)
value_if_so f k n None = refl
value_if_so f k n (Some x) = refl

pub same_values : (f : NameId → NameId) (k : ValueKind) (xs : List Declared)
    → values_of k (map (declared_as f) xs) ≡ map (value_as f) (values_of k xs)
same_values f k [] = refl
same_values f k (x ∷ xs) = append_so (value_as f) _ _ _ _ (value_if_so f k x.name x.value) (same_values f k xs)

pub same_reg_values : (f : NameId → NameId) (xs : List DeclaredReg) → reg_values_of (map (declared_reg_as f) xs) ≡ map (value_as f) (reg_values_of xs)
same_reg_values f [] = refl
same_reg_values f (x ∷ xs) = append_so (value_as f) _ _ _ _ (value_if_so f kind.Variable x.name x.value) (same_reg_values f xs)

pub same_port_values : (f : NameId → NameId) (p : PortDeclaration) → port_values (port_as f p) ≡ map (value_as f) (port_values p)
same_port_values f (InputPort at net k n) = refl
same_port_values f (OutputPort at net k x) = value_if_so f (kind_of_net net) x.name x.value
same_port_values f (NextPort x) = value_if_so f kind.AsDeclared x.name x.value

-- ---- faults

-- whether a net takes it
net_value_so : (f : NameId → NameId) (scope other : Scope) (x : DeclaredValue) → MeansSame f scope other
    → is_net_value other (value_as f x) ≡ is_net_value scope x
net_value_so f scope other x same = ap (λ (m : Meaning). is_net_by x.kind (is_net m)) (same x.name.name)

value_faults_so : (f : NameId → NameId) (scope other : Scope) (xs : List DeclaredValue) → MeansSame f scope other
    → all_value_faults other (map (value_as f) xs) ≡ map (fault_as f) (all_value_faults scope xs)
value_faults_so f scope other [] same = refl
value_faults_so f scope other (x ∷ xs) same =
    both_so f _ _ _ _
    (both_so f _ _ _ _ (same_target_faults f scope other ConstantOnly (name_of x) same)
    (ap (λ (b : Bool). faults other (due_by b) (expression_as f x.value)) (net_value_so f scope other x same)
    ∙ same_faults f scope other (due_by (is_net_value scope x)) x.value same))
    (value_faults_so f scope other xs same)

value_kinds_so : (f : NameId → NameId) (scope other : Scope) (xs : List DeclaredValue) → MeansSame f scope other
    → all_value_kinds other (map (value_as f) xs) ≡ map (fault_as f) (all_value_kinds scope xs)
value_kinds_so f scope other [] same = refl
value_kinds_so f scope other (x ∷ xs) same =
    both_so f _ _ _ _
    (ap (λ (b : Bool). kind_faults other (writer_by b) (name_of (value_as f x))) (net_value_so f scope other x same)
    ∙ same_kinds f scope other (writer_by (is_net_value scope x)) (name_of x) same)
    (value_kinds_so f scope other xs same)

pub same_declaration_faults : (f : NameId → NameId) (scope other : Scope) (xs : List DeclaredValue) → MeansSame f scope other
    → declaration_faults other (map (value_as f) xs) ≡ map (fault_as f) (declaration_faults scope xs)
same_declaration_faults f scope other xs same =
    both_so f _ _ _ _ (value_faults_so f scope other xs same) (value_kinds_so f scope other xs same)

-- ---- values at the beginning

abbrev initial_with : Meaning → Sized → ℕ → InitialValue
initial_with m z k = record { signal = signal_in m; value = value_of z no_signals % 2 ^ k }

initial_so : (f : NameId → NameId) (scope other : Scope) (x : DeclaredValue) → MeansSame f scope other
    → initial_value other (value_as f x) ≡ initial_value scope x
initial_so f scope other x same =
    ap₂ (λ (m : Meaning) (z : Sized). initial_with m z (target_length other (name_of (value_as f x)))) (same x.name.name)
    (same_assigned f scope other _ _ x.value same (same_target_length f scope other (name_of x) same))
    ∙ ap (initial_with (scope x.name.name.0) (assigned scope (target_length scope (name_of x)) x.value))
    (same_target_length f scope other (name_of x) same)

pub same_initials : (f : NameId → NameId) (scope other : Scope) (xs : List DeclaredValue) → MeansSame f scope other
    → declaration_initials other (map (value_as f) xs) ≡ declaration_initials scope xs
same_initials f scope other [] same = refl
same_initials f scope other (x ∷ xs) same =
    ap₂ (λ (b : Bool) (v : InitialValue). (if b then [] else v ∷ []) ++ declaration_initials other (map (value_as f) xs))
    (net_value_so f scope other x same) (initial_so f scope other x same)
    ∙ ap (λ (vs : List InitialValue). (if is_net_value scope x then [] else initial_value scope x ∷ []) ++ vs) (same_initials f scope other xs same)

-- ---- items

same_target_place : (f : NameId → NameId) (t : Target) → target_place (target_as f t) ≡ target_place t
same_target_place f (Reference x) = same_place f x
same_target_place f (Joined at ts) = refl
same_target_place f NoTarget = refl
same_target_place f (Targets t ts) = same_target_place f t

pub same_drive_item : (f : NameId → NameId) (scope other : Scope) (x : ContinuousAssignment) → MeansSame f scope other
    → drive_item other (assignment_as f x) ≡ placed_as f (drive_item scope x)
same_drive_item f scope other x same =
    ap₂ (λ (form : TargetForm) (d : SizedDrive). drive_with form d (target_place (target_as f x.target))
    (numbered 0 (target_names (target_as f x.target))))
    (same_form_of f scope other x.target same) (same_drive f scope other x same)
    ∙ ap₂ (drive_with (target_form scope x.target) (sized_drive scope x)) (same_target_place f x.target)
    (ap (numbered 0) (same_target_names f x.target) ∙ same_numbered f 0 (target_names x.target))

initial_item_so : (f : NameId → NameId) (scope other : Scope) (x : DeclaredValue) → MeansSame f scope other
    → initial_item other (value_as f x) ≡ placed_as f (initial_item scope x)
initial_item_so f scope other x same =
    ap (λ (m : Meaning). record {
      body = Initial (signal_in m);
      at = x.name.at;
      targets = numbered 0 (renamed_identifier f x.name ∷ []);
      reads = [];
    }) (same x.name.name)

pub same_value_item : (f : NameId → NameId) (scope other : Scope) (x : DeclaredValue) → MeansSame f scope other
    → value_item other (value_as f x) ≡ placed_as f (value_item scope x)
same_value_item f scope other x same =
    ap (λ (b : Bool). if b then drive_item other (as_assignment (value_as f x)) else initial_item other (value_as f x))
    (net_value_so f scope other x same)
    ∙ if_moved (placed_as f) (is_net_value scope x) (drive_item scope (as_assignment x)) (initial_item scope x) _ _
    (same_drive_item f scope other (as_assignment x) same) (initial_item_so f scope other x same)
