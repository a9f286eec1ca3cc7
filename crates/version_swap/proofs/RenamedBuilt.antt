-- The unit of a module under other names is its unit under these names, or the same first fault under these names (IEEE 1364-2005, 12.1 to 12.4).
use Rattle.std.proofs.Common.{◌≡◌, ℕ, zero, suc, Bool, List, [], ◌∷◌, map, refl, sym, ◌∙◌, ap, ap₂}
use Rattle.std.specs.Option.{option_map}
use Rattle.ls_text.specs.declared.fault.Fault.{Fault}
use Rattle.ls_text.specs.declared.name_id.NameId.{NameId}
use Rattle.typed_ir.specs.Cycles.{Signal}
use Rattle.typed_ir.specs.declared.child_shape.ChildShape.{ChildShape}
use Rattle.typed_ir.specs.declared.signal_declaration.SignalDeclaration.{SignalDeclaration}
use Rattle.typed_ir.specs.Items.{PlacedItem, PlacedItems, unit_of}
use Rattle.typed_ir.specs.Trees.{SizedUnit}
use Rattle.verilog_ast.specs.Items.{ModuleDeclaration}
use Rattle.verilog_ast.specs.Renaming.{declaration_as}
use Rattle.verilog_ast.specs.Views.{declaration_of}
use Rattle.width_rules.specs.declared.writer.Writer.{Writer}
use Rattle.width_rules.specs.Renaming.{fault_as}
use Rattle.width_rules.proofs.RenamedFaults.{both_so}
use Rattle.gen_unroll.specs.Steps.{ModuleStep}
use Rattle.gen_unroll.specs.Values.{unless}
use Rattle.gen_unroll.specs.Numbers.{SignalTable}
use Rattle.gen_unroll.specs.Signals.{NamedSignal}
use Rattle.gen_unroll.specs.UnitLists.{unit_signals, declarations_of, data_inputs, registers}
use Rattle.gen_unroll.specs.UnitReaches.{unit_reach_in, writer_of, is_settled}
use Rattle.driver_rules.specs.DriverFaults.{driver_faults}
use Rattle.driver_rules.specs.Targets.{is_settled as is_settled_by}
use Rattle.module_registry.specs.declared.build_job.BuildJob.{BuildJob}
use Rattle.module_registry.specs.Building.{Built}
use Rattle.statement_rules.specs.DeclaredValues.{InitialValue}
use Rattle.unit_build.specs.Building.{module_of, settled_signals, begins_with, with_initials, built}
use Rattle.unit_build.specs.Settled.{flag_steps, none_of}
use Rattle.unit_build.specs.Walks.{Walk, walk_faults, walk_items, walk_initials}
use Rattle.unit_build.specs.BuiltModules.{Usage, usage_of, module_steps, walk_in, module_faults, module_items, module_initials, placed_with, placed_module, unit_in, built_module}
use Rattle.unit_build.proofs.BuiltModules.{start_with, of_module, usage_so}
use Rattle.elaborate.specs.Renaming.{KeepsApart, number_as, found_as, step_as}
use Rattle.elaborate.proofs.RenamedAnswers.{found_so}
use Rattle.version_swap.specs.RenamedFindings.{signal_as, table_as, shape_as, placed_as, unit_signal_as, items_as}
use Rattle.version_swap.specs.RenamedUnits.{usage_as, built_as}
use Rattle.version_swap.proofs.RenamedDrivers.{same_settled_by, same_driver_faults, same_unit}
use Rattle.version_swap.proofs.RenamedSteps.{same_steps_with}
use Rattle.version_swap.proofs.RenamedTables.{same_table, same_signals, same_declarations, same_inputs, same_registers}
use Rattle.version_swap.proofs.RenamedUnitReaches.{same_unit_beginning, same_writer}
use Rattle.version_swap.proofs.RenamedWalks.{same_walk_faults, same_walk_items, same_walk_initials, same_flags, same_none}

-- ---- its steps

pub same_job_steps : (f : NameId → NameId) (m : ModuleDeclaration) (u : Usage) → KeepsApart f
    → module_steps (declaration_as f m) (usage_as f u) ≡ found_as f (map (step_as f)) (module_steps m u)
same_job_steps f m u apart = same_steps_with f u.parameters m apart

-- ---- which of its variables are settled

pub same_settled : (f : NameId → NameId) (m : ModuleDeclaration) (t : SignalTable) (steps : List ModuleStep) → KeepsApart f
    → settled_signals (declaration_as f m) (table_as f t) (map (step_as f) steps) ≡ settled_signals m t steps
same_settled f m t steps apart =
    ap (λ (w : ℕ → Writer). flag_steps w (map (signal_as f) t.signals) (unit_reach_in w (map (signal_as f) t.signals) (declaration_as f m))
    (map (step_as f) steps)
    (none_of (map (signal_as f) t.signals))) (same_writer f (is_settled []) t.signals)
    ∙ ap (flag_steps (writer_of (is_settled []) t.signals) (map (signal_as f) t.signals)
    (unit_reach_in (writer_of (is_settled []) t.signals) (map (signal_as f) t.signals) (declaration_as f m)) (map (step_as f) steps))
    (same_none f t.signals)
    ∙ same_flags f (writer_of (is_settled []) t.signals) t.signals (unit_reach_in (writer_of (is_settled []) t.signals) t.signals m)
    (unit_reach_in (writer_of (is_settled []) t.signals) (map (signal_as f) t.signals) (declaration_as f m)) steps (none_of t.signals) apart
    (same_unit_beginning f (writer_of (is_settled []) t.signals) t.signals m apart)

-- ---- its items

-- what may write the signals is the same
walk_so : {A : Type 0} (f : NameId → NameId) (walk : (ℕ → Writer) → Walk → A) (m : ModuleDeclaration) (u : Usage) (t : SignalTable)
    (settled : List Bool)
    → walk (writer_of (is_settled settled) (table_as f t).signals) (walk_in (declaration_as f m) (usage_as f u) (table_as f t) settled)
    ≡ walk (writer_of (is_settled settled) t.signals)
    (start_with (declaration_as f m) (usage_as f u) (table_as f t) (writer_of (is_settled settled) t.signals))
walk_so f walk m u t settled =
    ap (λ (w : ℕ → Writer). walk w (start_with (declaration_as f m) (usage_as f u) (table_as f t) w)) (same_writer f (is_settled settled) t.signals)

pub same_faults : (f : NameId → NameId) (m : ModuleDeclaration) (u : Usage) (t : SignalTable) (settled : List Bool) (steps : List ModuleStep)
    → KeepsApart f
    → module_faults (declaration_as f m) (usage_as f u) (table_as f t) settled (map (step_as f) steps)
    ≡ map (fault_as f) (module_faults m u t settled steps)
same_faults f m u t settled steps apart =
    walk_so f (λ (w : ℕ → Writer) (k : Walk). walk_faults w (map (signal_as f) t.signals) k (map (step_as f) steps)) m u t settled
    ∙ same_walk_faults f (writer_of (is_settled settled) t.signals) t.signals
    (unit_reach_in (writer_of (is_settled settled) t.signals) (map (signal_as f) t.signals) (declaration_as f m)) (walk_in m u t settled) steps apart
    (same_unit_beginning f (writer_of (is_settled settled) t.signals) t.signals m apart)

pub same_items : (f : NameId → NameId) (m : ModuleDeclaration) (u : Usage) (t : SignalTable) (settled : List Bool) (steps : List ModuleStep)
    → KeepsApart f
    → module_items (declaration_as f m) (usage_as f u) (table_as f t) settled (map (step_as f) steps)
    ≡ map (placed_as f) (module_items m u t settled steps)
same_items f m u t settled steps apart =
    walk_so f (λ (w : ℕ → Writer) (k : Walk). walk_items w (map (signal_as f) t.signals) k (map (step_as f) steps)) m u t settled
    ∙ same_walk_items f (writer_of (is_settled settled) t.signals) t.signals
    (unit_reach_in (writer_of (is_settled settled) t.signals) (map (signal_as f) t.signals) (declaration_as f m)) (walk_in m u t settled) steps apart
    (same_unit_beginning f (writer_of (is_settled settled) t.signals) t.signals m apart)

pub same_initials : (f : NameId → NameId) (m : ModuleDeclaration) (u : Usage) (t : SignalTable) (settled : List Bool) (steps : List ModuleStep)
    → KeepsApart f
    → module_initials (declaration_as f m) (usage_as f u) (table_as f t) settled (map (step_as f) steps) ≡ module_initials m u t settled steps
same_initials f m u t settled steps apart =
    walk_so f (λ (w : ℕ → Writer) (k : Walk). walk_initials w (map (signal_as f) t.signals) k (map (step_as f) steps)) m u t settled
    ∙ same_walk_initials f (writer_of (is_settled settled) t.signals) t.signals
    (unit_reach_in (writer_of (is_settled settled) t.signals) (map (signal_as f) t.signals) (declaration_as f m)) (walk_in m u t settled) steps apart
    (same_unit_beginning f (writer_of (is_settled settled) t.signals) t.signals m apart)

-- ---- all of it

begins_so : (f : NameId → NameId) (k value : ℕ) (xs : List Signal)
    → begins_with k value (map (unit_signal_as f) xs) ≡ map (unit_signal_as f) (begins_with k value xs)
begins_so f k value [] = refl
begins_so f zero value (x ∷ xs) = refl
begins_so f (suc k) value (x ∷ xs) = ap (λ (ys : List Signal). unit_signal_as f x ∷ ys) (begins_so f k value xs)

initials_so : (f : NameId → NameId) (vs : List InitialValue) (xs : List Signal)
    → with_initials vs (map (unit_signal_as f) xs) ≡ map (unit_signal_as f) (with_initials vs xs)
initials_so f [] xs = refl
initials_so f (v ∷ vs) xs = ap (with_initials vs) (begins_so f v.signal v.value xs) ∙ initials_so f vs (begins_with v.signal v.value xs)

pub same_begun : (f : NameId → NameId) (in_module : ℕ) (names : List NameId) (xs : List NamedSignal) (initials : List InitialValue)
    → with_initials initials (unit_signals (number_as f in_module) (map f names) (map (signal_as f) xs))
    ≡ map (unit_signal_as f) (with_initials initials (unit_signals in_module names xs))
same_begun f in_module names xs initials =
    ap (with_initials initials) (same_signals f in_module names xs) ∙ initials_so f initials (unit_signals in_module names xs)

abbrev all_with : List PlacedItem → List Signal → List SignalDeclaration → List ℕ → List ℕ → PlacedItems
all_with items signals declarations registers inputs =
    record { signals = signals; declarations = declarations; registers = registers; inputs = inputs; items = items }

placed_moves : (f : NameId → NameId) (m : ModuleDeclaration) (u : Usage) (t : SignalTable) (items : List PlacedItem) (initials : List InitialValue)
    → KeepsApart f
    → placed_with (declaration_as f m) (usage_as f u) (table_as f t) (map (placed_as f) items) initials
    ≡ items_as f (placed_with m u t items initials)
placed_moves f m u t items initials apart =
    ap₂ (λ (xs : List Signal) (ds : List SignalDeclaration). all_with (map (placed_as f) items) xs ds
    (registers (is_settled_by (map (placed_as f) items)) (table_as f t)) (data_inputs (option_map f u.clock) (map (signal_as f) t.signals)))
    (same_begun f m.name.name.0 u.names t.signals initials) (same_declarations f t.signals)
    ∙ ap₂ (all_with (map (placed_as f) items)
    (map (unit_signal_as f) (with_initials initials (unit_signals m.name.name.0 u.names t.signals))) (declarations_of t.signals))
    (ap (λ (settled : ℕ → Bool). registers settled (table_as f t)) (same_settled_by f items) ∙ same_registers f (is_settled_by items) t)
    (same_inputs f u.clock t.signals apart)

pub same_placed : (f : NameId → NameId) (m : ModuleDeclaration) (u : Usage) (t : SignalTable) (settled : List Bool) (steps : List ModuleStep)
    → KeepsApart f
    → placed_module (declaration_as f m) (usage_as f u) (table_as f t) settled (map (step_as f) steps)
    ≡ items_as f (placed_module m u t settled steps)
same_placed f m u t settled steps apart =
    ap₂ (placed_with (declaration_as f m) (usage_as f u) (table_as f t)) (same_items f m u t settled steps apart)
    (same_initials f m u t settled steps apart)
    ∙ placed_moves f m u t (module_items m u t settled steps) (module_initials m u t settled steps) apart

unless_moves : {A : Type 0} (f : NameId → NameId) (moved : A → A) (xs : List Fault) (x : A)
    → unless (map (fault_as f) xs) (moved x) ≡ found_as f moved (unless xs x)
unless_moves f moved [] x = refl
unless_moves f moved (e ∷ es) x = refl

unless_so : {A : Type 0} (f : NameId → NameId) (moved : A → A) (xs ys : List Fault) (x y : A) → ys ≡ map (fault_as f) xs → y ≡ moved x
    → unless ys y ≡ found_as f moved (unless xs x)
unless_so {A} f moved xs ys x y faults values = ap₂ (λ (zs : List Fault) (z : A). unless zs z) faults values ∙ unless_moves f moved xs x

abbrev built_with : List ChildShape → SizedUnit → Built
built_with shapes unit = record { unit = unit; shapes = shapes }

same_unit_in : (f : NameId → NameId) (m : ModuleDeclaration) (u : Usage) (t : SignalTable) (settled : List Bool) (steps : List ModuleStep)
    → KeepsApart f
    → unit_in (declaration_as f m) (usage_as f u) (table_as f t) settled (map (step_as f) steps)
    ≡ found_as f (built_as f) (unit_in m u t settled steps)
same_unit_in f m u t settled steps apart =
    unless_so f (built_as f) _ _ _ _
    (both_so f _ _ _ _ (same_faults f m u t settled steps apart)
    (ap driver_faults (same_placed f m u t settled steps apart) ∙ same_driver_faults f (placed_module m u t settled steps)))
    (ap (built_with (map (shape_as f) u.children))
    (ap unit_of (same_placed f m u t settled steps apart) ∙ same_unit f (placed_module m u t settled steps)))

pub same_built : (f : NameId → NameId) (m : ModuleDeclaration) (u : Usage) → KeepsApart f
    → built_module (declaration_as f m) (usage_as f u) ≡ found_as f (built_as f) (built_module m u)
same_built f m u apart =
    found_so f (map (step_as f)) (built_as f) _ _ _ _ (same_job_steps f m u apart)
    (λ steps. found_so f (table_as f) (built_as f) _ _ _ _ (same_table f m steps apart)
    (λ t. ap (λ (settled : List Bool). unit_in (declaration_as f m) (usage_as f u) (table_as f t) settled (map (step_as f) steps))
    (same_settled f m t steps apart)
    ∙ same_unit_in f m u t (settled_signals m t steps) steps apart))

-- ---- jobs

-- a job that is another one under other names
pub same_job : (f : NameId → NameId) (a b : BuildJob) → KeepsApart f
    → declaration_of b.module.value.body ≡ declaration_as f (declaration_of a.module.value.body) → b.parameters ≡ a.parameters
    → b.clock ≡ option_map f a.clock → b.children ≡ map (shape_as f) a.children → b.names ≡ map f a.names
    → built b ≡ found_as f (built_as f) (built a)
same_job f a b apart modules parameters clock children names =
    of_module b ∙ ap₂ built_module modules (usage_so (usage_of b) (usage_as f (usage_of a)) parameters clock children names)
    ∙ same_built f (module_of a) (usage_of a) apart
    ∙ ap (found_as f (built_as f)) (sym (of_module a))
