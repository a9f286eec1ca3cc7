-- The items of a module step by step, without places: the same items, and the same faults (IEEE 1364-2005, 12.1.2 and 12.4).
use Rattle.std.proofs.Common.{◌≡◌, ℕ, ◌+◌, Bool, false, List, [], ◌∷◌, ◌++◌, map, length, take, drop, refl, ◌∙◌, ap, ap₂}
use Rattle.std.proofs.lemmas.List.{length-map}
use Rattle.ls_text.proofs.Lists.{map_so}
use Rattle.typed_ir.specs.declared.shown_target.ShownTarget.{ShownTarget}
use Rattle.typed_ir.specs.Nodes.{Block}
use Rattle.typed_ir.specs.Stmts.{SizedStmt}
use Rattle.typed_ir.specs.declared.child_shape.ChildShape.{ChildShape}
use Rattle.typed_ir.specs.declared.mention.Mention.{Mention}
use Rattle.typed_ir.specs.Items.{PlacedItem, Node, Clocked}
use Rattle.typed_ir.specs.Trees.{Own}
use Rattle.verilog_ast.specs.Items as i
use Rattle.verilog_ast.specs.Items.{ModuleItem}
use Rattle.verilog_ast.specs.Places.{no_place}
use Rattle.verilog_ast.specs.Statements.{Statement}
use Rattle.width_rules.specs.declared.writer.Writer.{Writer}
use Rattle.width_rules.specs.declared.writer.Writer.TheVariants as writer
use Rattle.width_rules.specs.Scopes.{Scope}
use Rattle.gen_unroll.specs.Reaches.{Reach}
use Rattle.gen_unroll.specs.Steps.{ModuleStep, Port, Item}
use Rattle.width_rules.specs.Mentions.{statement_reads, statement_targets}
use Rattle.statement_rules.specs.declared.value_kind.ValueKind.TheVariants as kind
use Rattle.statement_rules.specs.DeclaredValues.{DeclaredValue, InitialValue, kind_of_net, declaration_faults, declaration_initials}
use Rattle.statement_rules.specs.SizedItems.{drive_item, value_item, combinational_item, clocked_item, plain_items, plain_initials, plain_faults}
use Rattle.unit_build.specs.Instances.{item_faults, instance_items}
use Rattle.gen_unroll.specs.Signals.{NamedSignal}
use Rattle.gen_unroll.specs.UnitReaches.{unit_in_reach}
use Rattle.unit_build.specs.Settled.{flag_meaning, flag_names, flag_item, flag_step, flag_steps, none_of}
use Rattle.unit_build.specs.Walks.{Walk, instances_in, shapes_of, step_faults, step_items, step_initials, passed, remaining, behind, walk_faults, walk_items, walk_initials}
use Rattle.unit_build.proofs.BuiltModules.{walk_with}
use Rattle.statement_rules.specs.Statements.{sized_statement}
use Rattle.width_rules.specs.Forms.{statement_shown}
use Rattle.version_swap.specs.Unplaced.{unplaced_statement, unplaced_assignment, unplaced_instance, unplaced_item}
use Rattle.version_swap.specs.UnplacedFindings.{fault_unplaced, step_unplaced, signal_unplaced, mention_unplaced, value_unplaced, placed_unplaced}
use Rattle.gen_unroll.proofs.MovedLists.{append_so}
use Rattle.version_swap.proofs.UnplacedConnections.{same_instance_faults, same_instance_items}
use Rattle.version_swap.proofs.UnplacedFaults.{both_so}
use Rattle.version_swap.proofs.UnplacedForms.{same_shown}
use Rattle.version_swap.proofs.UnplacedMentions.{same_reads, same_targets}
use Rattle.version_swap.proofs.UnplacedStatements.{same_statement, same_statement_faults, same_assign_faults}
use Rattle.version_swap.proofs.UnplacedUnitReaches.{same_unit_reach}
use Rattle.version_swap.proofs.UnplacedValueItems.{same_values, same_reg_values, same_port_values, same_declaration_faults, same_initials, same_drive_item, same_value_item}

-- ---- declarations with values

faults_so : (scope : Scope) (vs xs : List DeclaredValue) → vs ≡ map value_unplaced xs
    → declaration_faults scope vs ≡ map fault_unplaced (declaration_faults scope xs)
faults_so scope vs xs same = ap (declaration_faults scope) same ∙ same_declaration_faults scope xs

initials_so : (scope : Scope) (vs xs : List DeclaredValue) → vs ≡ map value_unplaced xs
    → declaration_initials scope vs ≡ declaration_initials scope xs
initials_so scope vs xs same = ap (declaration_initials scope) same ∙ same_initials scope xs

values_so : (scope : Scope) (vs xs : List DeclaredValue) → vs ≡ map value_unplaced xs
    → map (value_item scope) vs ≡ map placed_unplaced (map (value_item scope) xs)
values_so scope vs xs same = ap (map (value_item scope)) same ∙ map_so (value_item scope) value_unplaced placed_unplaced (same_value_item scope) xs

-- ---- blocks

abbrev combinational_with : ShownTarget → SizedStmt → List Mention → List Mention → PlacedItem
combinational_with shown st targets reads = record { body = Node (Own (Block shown st)); at = no_place; targets = targets; reads = reads }

combinational_so : (scope : Scope) (x : Statement)
    → combinational_item scope no_place (unplaced_statement x)
    ≡ combinational_with (statement_shown scope x) (sized_statement scope writer.Combinational x) (map mention_unplaced (statement_targets 0 x))
    (map mention_unplaced (statement_reads scope 0 x))
combinational_so scope x =
    ap₂ (λ (f : ShownTarget) (st : SizedStmt). combinational_with f st (statement_targets 0 (unplaced_statement x))
    (statement_reads scope 0 (unplaced_statement x)))
    (same_shown scope x) (same_statement scope writer.Combinational x)
    ∙ ap₂ (combinational_with (statement_shown scope x) (sized_statement scope writer.Combinational x)) (same_targets 0 x) (same_reads scope 0 x)

abbrev clocked_with : SizedStmt → List Mention → List Mention → PlacedItem
clocked_with st targets reads = record { body = Clocked st; at = no_place; targets = targets; reads = reads }

clocked_so : (scope : Scope) (x : Statement)
    → clocked_item scope no_place (unplaced_statement x)
    ≡ clocked_with (sized_statement scope writer.Clocked x) (map mention_unplaced (statement_targets 0 x))
    (map mention_unplaced (statement_reads scope 0 x))
clocked_so scope x =
    ap (λ (st : SizedStmt). clocked_with st (statement_targets 0 (unplaced_statement x)) (statement_reads scope 0 (unplaced_statement x)))
    (same_statement scope writer.Clocked x)
    ∙ ap₂ (clocked_with (sized_statement scope writer.Clocked x)) (same_targets 0 x) (same_reads scope 0 x)

-- ---- items but for instances

plain_faults_so : (scope : Scope) (x : ModuleItem) → plain_faults scope (unplaced_item x) ≡ map fault_unplaced (plain_faults scope x)
plain_faults_so scope (i.Outputs at n k xs) = faults_so scope _ _ (same_values (kind_of_net n) xs)
plain_faults_so scope (i.Wires at k xs) = faults_so scope _ _ (same_values kind.Net xs)
plain_faults_so scope (i.Regs at k xs) = faults_so scope _ _ (same_reg_values xs)
plain_faults_so scope (i.Assigns at xs) = same_assign_faults scope xs
plain_faults_so scope (i.Combinational at x) = same_statement_faults scope writer.Combinational x
plain_faults_so scope (i.Clocked at n x) = same_statement_faults scope writer.Clocked x
plain_faults_so scope other = refl

plain_items_so : (scope : Scope) (x : ModuleItem) → plain_items scope (unplaced_item x) ≡ map placed_unplaced (plain_items scope x)
plain_items_so scope (i.Outputs at n k xs) = values_so scope _ _ (same_values (kind_of_net n) xs)
plain_items_so scope (i.Wires at k xs) = values_so scope _ _ (same_values kind.Net xs)
plain_items_so scope (i.Regs at k xs) = values_so scope _ _ (same_reg_values xs)
plain_items_so scope (i.Assigns at xs) = map_so (drive_item scope) unplaced_assignment placed_unplaced (same_drive_item scope) xs
plain_items_so scope (i.Combinational at x) = ap (λ (y : PlacedItem). y ∷ []) (combinational_so scope x)
plain_items_so scope (i.Clocked at n x) = ap (λ (y : PlacedItem). y ∷ []) (clocked_so scope x)
plain_items_so scope other = refl

plain_initials_so : (scope : Scope) (x : ModuleItem) → plain_initials scope (unplaced_item x) ≡ plain_initials scope x
plain_initials_so scope (i.Outputs at n k xs) = initials_so scope _ _ (same_values (kind_of_net n) xs)
plain_initials_so scope (i.Wires at k xs) = initials_so scope _ _ (same_values kind.Net xs)
plain_initials_so scope (i.Regs at k xs) = initials_so scope _ _ (same_reg_values xs)
plain_initials_so scope other = refl

-- ---- instances

instances_so : (x : ModuleItem) → instances_in (unplaced_item x) ≡ map unplaced_instance (instances_in x)
instances_so (i.Instances n overrides xs) = refl
instances_so other = refl

many_so : (x : ModuleItem) → length (instances_in (unplaced_item x)) ≡ length (instances_in x)
many_so x = ap length (instances_so x) ∙ length-map (instances_in x) unplaced_instance

shapes_so : (left : List ChildShape) (x : ModuleItem) → shapes_of left (unplaced_item x) ≡ shapes_of left x
shapes_so left x = ap (λ (n : ℕ). take n left) (many_so x)

-- ---- one step

step_faults_so : (scope : Scope) (left : List ChildShape) (s : ModuleStep)
    → step_faults scope left (step_unplaced s) ≡ map fault_unplaced (step_faults scope left s)
step_faults_so scope left (Port p) = faults_so scope _ _ (same_port_values p)
step_faults_so scope left (Item x) =
    both_so _ _ _ _ (plain_faults_so scope x)
    (ap₂ (item_faults scope) (shapes_so left x) (instances_so x) ∙ same_instance_faults scope (shapes_of left x) (instances_in x))
step_faults_so scope left other = refl

step_items_so : (scope : Scope) (child : ℕ) (left : List ChildShape) (s : ModuleStep)
    → step_items scope child left (step_unplaced s) ≡ map placed_unplaced (step_items scope child left s)
step_items_so scope child left (Port p) = values_so scope _ _ (same_port_values p)
step_items_so scope child left (Item x) =
    append_so placed_unplaced _ _ _ _ (plain_items_so scope x)
    (ap₂ (instance_items scope child) (shapes_so left x) (instances_so x) ∙ same_instance_items scope child (shapes_of left x) (instances_in x))
step_items_so scope child left other = refl

step_initials_so : (scope : Scope) (s : ModuleStep) → step_initials scope (step_unplaced s) ≡ step_initials scope s
step_initials_so scope (Port p) = initials_so scope _ _ (same_port_values p)
step_initials_so scope (Item x) = plain_initials_so scope x
step_initials_so scope other = refl

-- ---- all steps

passed_so : (left : List ChildShape) (s : ModuleStep) → passed left (step_unplaced s) ≡ passed left s
passed_so left (Item x) = shapes_so left x
passed_so left other = refl

remaining_so : (left : List ChildShape) (s : ModuleStep) → remaining left (step_unplaced s) ≡ remaining left s
remaining_so left (Item x) = ap (λ (n : ℕ). drop n left) (many_so x)
remaining_so left other = refl

behind_so : (w : ℕ → Writer) (xs : List NamedSignal) (s : ModuleStep) (k : Walk)
    → behind w (map signal_unplaced xs) (step_unplaced s) k ≡ behind w xs s k
behind_so w xs s k =
    ap₂ (λ (r : Reach) (ps : List ChildShape). walk_with r (k.child + length ps) (remaining k.left (step_unplaced s)))
    (same_unit_reach w xs s k.here) (passed_so k.left s)
    ∙ ap (walk_with (unit_in_reach w xs s k.here) (k.child + length (passed k.left s))) (remaining_so k.left s)

pub same_walk_faults : (w : ℕ → Writer) (xs : List NamedSignal) (k : Walk) (steps : List ModuleStep)
    → walk_faults w (map signal_unplaced xs) k (map step_unplaced steps) ≡ map fault_unplaced (walk_faults w xs k steps)
same_walk_faults w xs k [] = refl
same_walk_faults w xs k (s ∷ ss) =
    both_so _ _ _ _ (step_faults_so k.here.scope k.left s)
    (ap (λ (j : Walk). walk_faults w (map signal_unplaced xs) j (map step_unplaced ss)) (behind_so w xs s k)
    ∙ same_walk_faults w xs (behind w xs s k) ss)

pub same_walk_items : (w : ℕ → Writer) (xs : List NamedSignal) (k : Walk) (steps : List ModuleStep)
    → walk_items w (map signal_unplaced xs) k (map step_unplaced steps) ≡ map placed_unplaced (walk_items w xs k steps)
same_walk_items w xs k [] = refl
same_walk_items w xs k (s ∷ ss) =
    append_so placed_unplaced _ _ _ _ (step_items_so k.here.scope k.child k.left s)
    (ap (λ (j : Walk). walk_items w (map signal_unplaced xs) j (map step_unplaced ss)) (behind_so w xs s k)
    ∙ same_walk_items w xs (behind w xs s k) ss)

pub same_walk_initials : (w : ℕ → Writer) (xs : List NamedSignal) (k : Walk) (steps : List ModuleStep)
    → walk_initials w (map signal_unplaced xs) k (map step_unplaced steps) ≡ walk_initials w xs k steps
same_walk_initials w xs k [] = refl
same_walk_initials w xs k (s ∷ ss) =
    ap₂ (λ (vs us : List InitialValue). vs ++ us) (step_initials_so k.here.scope s)
    (ap (λ (j : Walk). walk_initials w (map signal_unplaced xs) j (map step_unplaced ss)) (behind_so w xs s k)
    ∙ same_walk_initials w xs (behind w xs s k) ss)

-- ---- variables that combinational blocks write

flag_names_so : (scope : Scope) (ms : List Mention) (flags : List Bool) → flag_names scope (map mention_unplaced ms) flags ≡ flag_names scope ms flags
flag_names_so scope [] flags = refl
flag_names_so scope (m ∷ ms) flags = flag_names_so scope ms (flag_meaning (scope m.name.0) flags)

flag_item_so : (scope : Scope) (x : ModuleItem) (flags : List Bool) → flag_item scope (unplaced_item x) flags ≡ flag_item scope x flags
flag_item_so scope (i.Combinational at x) flags =
    ap (λ (ms : List Mention). flag_names scope ms flags) (same_targets 0 x) ∙ flag_names_so scope (statement_targets 0 x) flags
flag_item_so scope other flags = refl

flag_step_so : (scope : Scope) (s : ModuleStep) (flags : List Bool) → flag_step scope (step_unplaced s) flags ≡ flag_step scope s flags
flag_step_so scope (Item x) flags = flag_item_so scope x flags
flag_step_so scope other flags = refl

pub same_flags : (w : ℕ → Writer) (xs : List NamedSignal) (here : Reach) (steps : List ModuleStep) (flags : List Bool)
    → flag_steps w (map signal_unplaced xs) here (map step_unplaced steps) flags ≡ flag_steps w xs here steps flags
same_flags w xs here [] flags = refl
same_flags w xs here (s ∷ ss) flags =
    ap₂ (λ (r : Reach) (fs : List Bool). flag_steps w (map signal_unplaced xs) r (map step_unplaced ss) fs) (same_unit_reach w xs s here)
    (flag_step_so here.scope s flags)
    ∙ same_flags w xs (unit_in_reach w xs s here) ss (flag_step here.scope s flags)

pub same_none : (xs : List NamedSignal) → none_of (map signal_unplaced xs) ≡ none_of xs
same_none [] = refl
same_none (x ∷ xs) = ap (λ (fs : List Bool). false ∷ fs) (same_none xs)
