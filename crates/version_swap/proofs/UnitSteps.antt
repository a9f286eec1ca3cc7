-- A step of a module where the signals in reach have other numbers: the same faults, and its items under these numbers.
use Rattle.std.proofs.Common.{◌≡◌, ℕ, List, ◌++◌, [], map, refl, sym, ◌∙◌, ap₂}
use Rattle.std.proofs.lemmas.List.{map-append}
use Rattle.ls_text.proofs.Lists.{joined_so}
use Rattle.typed_ir.specs.declared.child_shape.ChildShape.{ChildShape}
use Rattle.typed_ir.specs.Items.{PlacedItem}
use Rattle.width_rules.specs.Scopes.{Scope}
use Rattle.width_rules.proofs.Reading.{left_none, right_none}
use Rattle.gen_unroll.specs.Steps.{ModuleStep, Listed, Port, Parameter, Item, Labelled, Opened, Closed}
use Rattle.statement_rules.specs.Renumbering.{renumbered}
use Rattle.unit_build.specs.Instances.{item_faults, instance_items}
use Rattle.statement_rules.specs.DeclaredValues.{port_values}
use Rattle.statement_rules.specs.SizedItems.{plain_items, plain_faults}
use Rattle.unit_build.specs.Walks.{instances_in, shapes_of, step_faults, step_items, step_initials}
use Rattle.unit_build.proofs.ConnectedTexts.{HasWrittenInstances}
use Rattle.unit_build.proofs.ItemLaws.{IsStepWritten}
use Rattle.version_swap.specs.RenumberedItems.{placed_as, initial_as}
use Rattle.version_swap.proofs.Connected.{item_faults_as, instance_items_as}
use Rattle.version_swap.proofs.Declared.{declaration_faults_as, value_items_as, initials_as}
use Rattle.version_swap.proofs.Plain.{plain_faults_as, plain_items_as, plain_initials_as}

pub step_faults_as : (g : ℕ → ℕ) (scope : Scope) (left : List ChildShape) (s : ModuleStep)
    → step_faults (renumbered g scope) left s ≡ step_faults scope left s
step_faults_as g scope left (Listed n) = refl
step_faults_as g scope left (Port p) = declaration_faults_as g scope (port_values p)
step_faults_as g scope left (Parameter s n v) = refl
step_faults_as g scope left (Item x) = joined_so (plain_faults_as g scope x) (item_faults_as g scope (shapes_of left x) (instances_in x))
step_faults_as g scope left (Labelled n) = refl
step_faults_as g scope left (Opened b items) = refl
step_faults_as g scope left Closed = refl

pub step_items_as : (g : ℕ → ℕ) (scope : Scope) (child : ℕ) (left : List ChildShape) (s : ModuleStep) → IsStepWritten s → HasWrittenInstances s
    → step_faults scope left s ≡ [] → step_items (renumbered g scope) child left s ≡ map (placed_as g) (step_items scope child left s)
step_items_as g scope child left (Listed n) w v h = refl
step_items_as g scope child left (Port p) w v h = value_items_as g scope (port_values p) h
step_items_as g scope child left (Parameter s n value) w v h = refl
step_items_as g scope child left (Item x) w v h =
    let plain = plain_faults scope x in
    let others = item_faults scope (shapes_of left x) (instances_in x) in
    ap₂ (λ (ps qs : List PlacedItem). ps ++ qs)
    (plain_items_as g scope x w (left_none plain others h))
    (instance_items_as g scope child (shapes_of left x) (instances_in x) v (right_none plain others h))
    ∙ sym (map-append (placed_as g) (plain_items scope x) (instance_items scope child (shapes_of left x) (instances_in x)))
step_items_as g scope child left (Labelled n) w v h = refl
step_items_as g scope child left (Opened b items) w v h = refl
step_items_as g scope child left Closed w v h = refl

pub step_initials_as : (g : ℕ → ℕ) (scope : Scope) (left : List ChildShape) (s : ModuleStep) → step_faults scope left s ≡ []
    → step_initials (renumbered g scope) s ≡ map (initial_as g) (step_initials scope s)
step_initials_as g scope left (Listed n) h = refl
step_initials_as g scope left (Port p) h = initials_as g scope (port_values p) h
step_initials_as g scope left (Parameter s n v) h = refl
step_initials_as g scope left (Item x) h =
    plain_initials_as g scope x (left_none (plain_faults scope x) (item_faults scope (shapes_of left x) (instances_in x)) h)
step_initials_as g scope left (Labelled n) h = refl
step_initials_as g scope left (Opened b items) h = refl
step_initials_as g scope left Closed h = refl
