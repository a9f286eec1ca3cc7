-- The items of a module step by step, under other names: the same items, and the same faults (IEEE 1364-2005, 12.1.2 and 12.4).
use Rattle.std.proofs.Common.{◌≡◌, ℕ, ◌+◌, Bool, false, List, [], ◌∷◌, ◌++◌, map, length, take, drop, refl, ◌∙◌, ap, ap₂}
use Rattle.std.proofs.lemmas.List.{length-map, take-map, drop-map}
use Rattle.ls_text.specs.declared.name_id.NameId.{NameId}
use Rattle.typed_ir.specs.declared.child_shape.ChildShape.{ChildShape}
use Rattle.typed_ir.specs.declared.mention.Mention.{Mention}
use Rattle.verilog_ast.specs.Items as i
use Rattle.verilog_ast.specs.Items.{ModuleItem}
use Rattle.verilog_ast.specs.Renaming.{instance_as, item_as}
use Rattle.width_rules.specs.declared.writer.Writer.{Writer}
use Rattle.width_rules.specs.Renaming.{MeansSame, fault_as}
use Rattle.width_rules.specs.Scopes.{Meaning, Scope}
use Rattle.width_rules.proofs.RenamedFaults.{both_so}
use Rattle.gen_unroll.specs.Reaches.{Reach}
use Rattle.gen_unroll.specs.Steps.{ModuleStep, Port, Item}
use Rattle.width_rules.specs.Mentions.{statement_targets}
use Rattle.statement_rules.specs.DeclaredValues.{InitialValue}
use Rattle.unit_build.specs.Instances.{item_faults, instance_items}
use Rattle.gen_unroll.specs.Signals.{NamedSignal}
use Rattle.gen_unroll.specs.UnitReaches.{unit_in_reach}
use Rattle.unit_build.specs.Settled.{flag_meaning, flag_names, flag_item, flag_step, flag_steps, none_of}
use Rattle.unit_build.specs.Walks.{Walk, instances_in, shapes_of, shapes_behind, step_faults, step_items, step_initials, passed, remaining, behind, walk_faults, walk_items, walk_initials}
use Rattle.unit_build.proofs.BuiltModules.{walk_with}
use Rattle.elaborate.specs.Renaming.{KeepsApart, SameReach, step_as}
use Rattle.gen_unroll.proofs.MovedLists.{append_so}
use Rattle.version_swap.specs.RenamedFindings.{signal_as, shape_as, mention_as, placed_as}
use Rattle.version_swap.proofs.RenamedConnections.{same_instance_faults, same_instance_items}
use Rattle.version_swap.proofs.RenamedItems.{faults_so, initials_so, values_so, same_plain_faults, same_plain_items, same_plain_initials}
use Rattle.version_swap.proofs.RenamedMentions.{same_targets}
use Rattle.version_swap.proofs.RenamedUnitReaches.{same_unit_reach}
use Rattle.version_swap.proofs.RenamedValueItems.{same_port_values}

-- ---- instances, and their shapes

instances_so : (f : NameId → NameId) (x : ModuleItem) → instances_in (item_as f x) ≡ map (instance_as f) (instances_in x)
instances_so f (i.Instances n overrides xs) = refl
instances_so f rest = refl

many_so : (f : NameId → NameId) (x : ModuleItem) → length (instances_in (item_as f x)) ≡ length (instances_in x)
many_so f x = ap length (instances_so f x) ∙ length-map (instances_in x) (instance_as f)

shapes_so : (f : NameId → NameId) (left : List ChildShape) (x : ModuleItem)
    → shapes_of (map (shape_as f) left) (item_as f x) ≡ map (shape_as f) (shapes_of left x)
shapes_so f left x = ap (λ (n : ℕ). take n (map (shape_as f) left)) (many_so f x) ∙ take-map (shape_as f) (length (instances_in x)) left

shapes_behind_so : (f : NameId → NameId) (left : List ChildShape) (x : ModuleItem)
    → shapes_behind (map (shape_as f) left) (item_as f x) ≡ map (shape_as f) (shapes_behind left x)
shapes_behind_so f left x = ap (λ (n : ℕ). drop n (map (shape_as f) left)) (many_so f x) ∙ drop-map (shape_as f) (length (instances_in x)) left

-- ---- one step

step_faults_so : (f : NameId → NameId) (scope other : Scope) (left : List ChildShape) (s : ModuleStep) → KeepsApart f → MeansSame f scope other
    → step_faults other (map (shape_as f) left) (step_as f s) ≡ map (fault_as f) (step_faults scope left s)
step_faults_so f scope other left (Port p) apart same = faults_so f scope other _ _ same (same_port_values f p)
step_faults_so f scope other left (Item x) apart same =
    both_so f _ _ _ _ (same_plain_faults f scope other x same)
    (ap₂ (item_faults other) (shapes_so f left x) (instances_so f x)
    ∙ same_instance_faults f scope other (shapes_of left x) (instances_in x) apart same)
step_faults_so f scope other left rest apart same = refl

pub step_items_so : (f : NameId → NameId) (scope other : Scope) (child : ℕ) (left : List ChildShape) (s : ModuleStep) → KeepsApart f
    → MeansSame f scope other
    → step_items other child (map (shape_as f) left) (step_as f s) ≡ map (placed_as f) (step_items scope child left s)
step_items_so f scope other child left (Port p) apart same = values_so f scope other _ _ same (same_port_values f p)
step_items_so f scope other child left (Item x) apart same =
    append_so (placed_as f) _ _ _ _ (same_plain_items f scope other x same)
    (ap₂ (instance_items other child) (shapes_so f left x) (instances_so f x)
    ∙ same_instance_items f scope other child (shapes_of left x) (instances_in x) apart same)
step_items_so f scope other child left rest apart same = refl

step_initials_so : (f : NameId → NameId) (scope other : Scope) (s : ModuleStep) → MeansSame f scope other
    → step_initials other (step_as f s) ≡ step_initials scope s
step_initials_so f scope other (Port p) same = initials_so f scope other _ _ same (same_port_values f p)
step_initials_so f scope other (Item x) same = same_plain_initials f scope other x same
step_initials_so f scope other rest same = refl

-- ---- all steps

passed_so : (f : NameId → NameId) (left : List ChildShape) (s : ModuleStep)
    → passed (map (shape_as f) left) (step_as f s) ≡ map (shape_as f) (passed left s)
passed_so f left (Item x) = shapes_so f left x
passed_so f left rest = refl

remaining_so : (f : NameId → NameId) (left : List ChildShape) (s : ModuleStep)
    → remaining (map (shape_as f) left) (step_as f s) ≡ map (shape_as f) (remaining left s)
remaining_so f left (Item x) = shapes_behind_so f left x
remaining_so f left rest = refl

-- with these names in reach, under other names
abbrev pub walk_as : (NameId → NameId) → Reach → Walk → Walk
walk_as f there k = record { here = there; child = k.child; left = map (shape_as f) k.left }

pub behind_so : (f : NameId → NameId) (w : ℕ → Writer) (xs : List NamedSignal) (s : ModuleStep) (there : Reach) (k : Walk)
    → behind w (map (signal_as f) xs) (step_as f s) (walk_as f there k)
    ≡ walk_as f (unit_in_reach w (map (signal_as f) xs) (step_as f s) there) (behind w xs s k)
behind_so f w xs s there k =
    ap₂ (λ (n : ℕ) (left : List ChildShape). walk_with (unit_in_reach w (map (signal_as f) xs) (step_as f s) there) (k.child + n) left)
    (ap length (passed_so f k.left s) ∙ length-map (passed k.left s) (shape_as f)) (remaining_so f k.left s)

pub same_walk_faults : (f : NameId → NameId) (w : ℕ → Writer) (xs : List NamedSignal) (there : Reach) (k : Walk) (steps : List ModuleStep)
    → KeepsApart f → SameReach f k.here there
    → walk_faults w (map (signal_as f) xs) (walk_as f there k) (map (step_as f) steps) ≡ map (fault_as f) (walk_faults w xs k steps)
same_walk_faults f w xs there k [] apart same = refl
same_walk_faults f w xs there k (s ∷ ss) apart same =
    both_so f _ _ _ _ (step_faults_so f k.here.scope there.scope k.left s apart same.names)
    (ap (λ (j : Walk). walk_faults w (map (signal_as f) xs) j (map (step_as f) ss)) (behind_so f w xs s there k)
    ∙ same_walk_faults f w xs (unit_in_reach w (map (signal_as f) xs) (step_as f s) there) (behind w xs s k) ss apart
    (same_unit_reach f w xs s k.here there apart same))

pub same_walk_items : (f : NameId → NameId) (w : ℕ → Writer) (xs : List NamedSignal) (there : Reach) (k : Walk) (steps : List ModuleStep)
    → KeepsApart f → SameReach f k.here there
    → walk_items w (map (signal_as f) xs) (walk_as f there k) (map (step_as f) steps) ≡ map (placed_as f) (walk_items w xs k steps)
same_walk_items f w xs there k [] apart same = refl
same_walk_items f w xs there k (s ∷ ss) apart same =
    append_so (placed_as f) _ _ _ _ (step_items_so f k.here.scope there.scope k.child k.left s apart same.names)
    (ap (λ (j : Walk). walk_items w (map (signal_as f) xs) j (map (step_as f) ss)) (behind_so f w xs s there k)
    ∙ same_walk_items f w xs (unit_in_reach w (map (signal_as f) xs) (step_as f s) there) (behind w xs s k) ss apart
    (same_unit_reach f w xs s k.here there apart same))

pub same_walk_initials : (f : NameId → NameId) (w : ℕ → Writer) (xs : List NamedSignal) (there : Reach) (k : Walk) (steps : List ModuleStep)
    → KeepsApart f → SameReach f k.here there
    → walk_initials w (map (signal_as f) xs) (walk_as f there k) (map (step_as f) steps) ≡ walk_initials w xs k steps
same_walk_initials f w xs there k [] apart same = refl
same_walk_initials f w xs there k (s ∷ ss) apart same =
    ap₂ (λ (vs us : List InitialValue). vs ++ us) (step_initials_so f k.here.scope there.scope s same.names)
    (ap (λ (j : Walk). walk_initials w (map (signal_as f) xs) j (map (step_as f) ss)) (behind_so f w xs s there k)
    ∙ same_walk_initials f w xs (unit_in_reach w (map (signal_as f) xs) (step_as f s) there) (behind w xs s k) ss apart
    (same_unit_reach f w xs s k.here there apart same))

-- ---- variables that combinational blocks write

flag_names_so : (f : NameId → NameId) (scope other : Scope) (ms : List Mention) (flags : List Bool) → MeansSame f scope other
    → flag_names other (map (mention_as f) ms) flags ≡ flag_names scope ms flags
flag_names_so f scope other [] flags same = refl
flag_names_so f scope other (m ∷ ms) flags same =
    ap (λ (n : Meaning). flag_names other (map (mention_as f) ms) (flag_meaning n flags)) (same m.name)
    ∙ flag_names_so f scope other ms (flag_meaning (scope m.name.0) flags) same

flag_item_so : (f : NameId → NameId) (scope other : Scope) (x : ModuleItem) (flags : List Bool) → MeansSame f scope other
    → flag_item other (item_as f x) flags ≡ flag_item scope x flags
flag_item_so f scope other (i.Combinational at x) flags same =
    ap (λ (ms : List Mention). flag_names other ms flags) (same_targets f 0 x) ∙ flag_names_so f scope other (statement_targets 0 x) flags same
flag_item_so f scope other rest flags same = refl

flag_step_so : (f : NameId → NameId) (scope other : Scope) (s : ModuleStep) (flags : List Bool) → MeansSame f scope other
    → flag_step other (step_as f s) flags ≡ flag_step scope s flags
flag_step_so f scope other (Item x) flags same = flag_item_so f scope other x flags same
flag_step_so f scope other rest flags same = refl

pub same_flags : (f : NameId → NameId) (w : ℕ → Writer) (xs : List NamedSignal) (here there : Reach) (steps : List ModuleStep) (flags : List Bool)
    → KeepsApart f → SameReach f here there
    → flag_steps w (map (signal_as f) xs) there (map (step_as f) steps) flags ≡ flag_steps w xs here steps flags
same_flags f w xs here there [] flags apart same = refl
same_flags f w xs here there (s ∷ ss) flags apart same =
    ap (flag_steps w (map (signal_as f) xs) (unit_in_reach w (map (signal_as f) xs) (step_as f s) there) (map (step_as f) ss))
    (flag_step_so f here.scope there.scope s flags same.names)
    ∙ same_flags f w xs (unit_in_reach w xs s here) (unit_in_reach w (map (signal_as f) xs) (step_as f s) there) ss
    (flag_step here.scope s flags) apart (same_unit_reach f w xs s here there apart same)

pub same_none : (f : NameId → NameId) (xs : List NamedSignal) → none_of (map (signal_as f) xs) ≡ none_of xs
same_none f [] = refl
same_none f (x ∷ xs) = ap (λ (fs : List Bool). false ∷ fs) (same_none f xs)
