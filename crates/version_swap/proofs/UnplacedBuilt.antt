-- The places of a module change nothing of its unit, nor of its first fault but where that is shown (IEEE 1364-2005, 12.1 to 12.4).
use Rattle.std.proofs.Common.{◌≡◌, ℕ, Bool, List, [], map, Result, Ok, Err, refl, sym, ◌∙◌, ap, ap₂}
use Rattle.ls_text.specs.declared.fault.Fault.{Fault}
use Rattle.typed_ir.specs.Cycles.{Signal}
use Rattle.verilog_ast.specs.Views.{declaration_of}
use Rattle.typed_ir.specs.declared.signal_declaration.SignalDeclaration.{SignalDeclaration}
use Rattle.typed_ir.specs.Items.{PlacedItem, PlacedItems, unit_of}
use Rattle.typed_ir.specs.Trees.{SizedUnit}
use Rattle.verilog_ast.specs.Items.{ModuleDeclaration}
use Rattle.width_rules.specs.declared.writer.Writer.{Writer}
use Rattle.gen_unroll.specs.declared.parameter_sort.ParameterSort.{ParameterSort}
use Rattle.gen_unroll.specs.Overriding.{constant_sorts, overrides_of}
use Rattle.gen_unroll.specs.Reaches.{Reach}
use Rattle.gen_unroll.specs.Steps.{ModuleStep}
use Rattle.gen_unroll.specs.Unrolled.{State, unrolled_module, turn_limit, steps_told}
use Rattle.ls_text.specs.Answers.{◌>>=◌}
use Rattle.gen_unroll.specs.Numbers.{SignalTable}
use Rattle.gen_unroll.specs.UnitLists.{unit_signals, declarations_of, data_inputs, registers}
use Rattle.gen_unroll.specs.UnitReaches.{unit_reach_in, writer_of, is_settled}
use Rattle.driver_rules.specs.DriverFaults.{driver_faults}
use Rattle.driver_rules.specs.Targets.{is_settled as is_settled_by}
use Rattle.module_registry.specs.declared.build_job.BuildJob.{BuildJob}
use Rattle.module_registry.specs.Building.{Built}
use Rattle.statement_rules.specs.DeclaredValues.{InitialValue}
use Rattle.unit_build.specs.Building.{module_of, settled_signals, with_initials, built}
use Rattle.unit_build.specs.Settled.{flag_steps, none_of}
use Rattle.unit_build.specs.Walks.{Walk, walk_faults, walk_items, walk_initials}
use Rattle.unit_build.specs.BuiltModules.{Usage, usage_of, module_steps, walk_in, module_faults, module_items, module_initials, placed_with, placed_module, unit_in, built_module}
use Rattle.unit_build.proofs.BuiltModules.{start_with, of_module, usage_so}
use Rattle.version_swap.specs.UnplacedFindings.{fault_unplaced, found_unplaced, answer_unplaced, step_unplaced, signal_unplaced, table_unplaced, placed_unplaced, items_unplaced}
use Rattle.version_swap.specs.Unplaced.{unplaced_declaration}
use Rattle.version_swap.proofs.UnplacedAnswers.{found_so, unless_so}
use Rattle.version_swap.proofs.UnplacedDrivers.{same_settled_by, same_driver_faults, same_unit}
use Rattle.version_swap.proofs.UnplacedFaults.{both_so}
use Rattle.version_swap.proofs.UnplacedTables.{same_table, same_signals, same_declarations, same_inputs, same_registers}
use Rattle.version_swap.proofs.UnplacedUnitReaches.{same_unit_beginning, same_writer}
use Rattle.version_swap.proofs.UnplacedUnrolled.{same_module, same_sorts}
use Rattle.version_swap.proofs.UnplacedWalks.{same_walk_faults, same_walk_items, same_walk_initials, same_flags, same_none}

-- ---- its steps

told_moves : (said : List ModuleStep) (r : Result State Fault)
    → (answer_unplaced r >>= λ st. Ok (map step_unplaced said)) ≡ found_unplaced (map step_unplaced) (r >>= λ st. Ok said)
told_moves said (Ok st) = refl
told_moves said (Err e) = refl

same_steps : (m : ModuleDeclaration) (u : Usage) → module_steps (unplaced_declaration m) u ≡ found_unplaced (map step_unplaced) (module_steps m u)
same_steps m u =
    ap (λ (ss : List ParameterSort). steps_told (unrolled_module turn_limit (overrides_of ss u.parameters) (unplaced_declaration m))) (same_sorts m)
    ∙ ap steps_told (same_module turn_limit (overrides_of (constant_sorts m) u.parameters) m)
    ∙ told_moves (unrolled_module turn_limit (overrides_of (constant_sorts m) u.parameters) m).said
    (unrolled_module turn_limit (overrides_of (constant_sorts m) u.parameters) m).ending

-- ---- which of its variables are settled

same_settled : (m : ModuleDeclaration) (t : SignalTable) (steps : List ModuleStep)
    → settled_signals (unplaced_declaration m) (table_unplaced t) (map step_unplaced steps) ≡ settled_signals m t steps
same_settled m t steps =
    ap (λ (w : ℕ → Writer). flag_steps w (map signal_unplaced t.signals) (unit_reach_in w (map signal_unplaced t.signals) (unplaced_declaration m))
    (map step_unplaced steps)
    (none_of (map signal_unplaced t.signals))) (same_writer (is_settled []) t.signals)
    ∙ ap₂ (λ (r : Reach) (fs : List Bool). flag_steps (writer_of (is_settled []) t.signals) (map signal_unplaced t.signals) r
    (map step_unplaced steps) fs)
    (same_unit_beginning (writer_of (is_settled []) t.signals) t.signals m) (same_none t.signals)
    ∙ same_flags (writer_of (is_settled []) t.signals) t.signals (unit_reach_in (writer_of (is_settled []) t.signals) t.signals m) steps
    (none_of t.signals)

-- ---- its items

-- what follows from a walk over a module
walk_so : {A : Type 0} (walk : (ℕ → Writer) → Walk → A) (m : ModuleDeclaration) (u : Usage) (t : SignalTable) (settled : List Bool)
    → walk (writer_of (is_settled settled) (table_unplaced t).signals) (walk_in (unplaced_declaration m) u (table_unplaced t) settled)
    ≡ walk (writer_of (is_settled settled) t.signals) (walk_in m u t settled)
walk_so walk m u t settled =
    ap (λ (w : ℕ → Writer). walk w (start_with (unplaced_declaration m) u (table_unplaced t) w)) (same_writer (is_settled settled) t.signals)
    ∙ ap (λ (r : Reach). walk (writer_of (is_settled settled) t.signals) (record { here = r; child = 0; left = u.children }))
    (same_unit_beginning (writer_of (is_settled settled) t.signals) t.signals m)

same_faults : (m : ModuleDeclaration) (u : Usage) (t : SignalTable) (settled : List Bool) (steps : List ModuleStep)
    → module_faults (unplaced_declaration m) u (table_unplaced t) settled (map step_unplaced steps)
    ≡ map fault_unplaced (module_faults m u t settled steps)
same_faults m u t settled steps =
    walk_so (λ (w : ℕ → Writer) (k : Walk). walk_faults w (map signal_unplaced t.signals) k (map step_unplaced steps)) m u t settled
    ∙ same_walk_faults (writer_of (is_settled settled) t.signals) t.signals (walk_in m u t settled) steps

same_items : (m : ModuleDeclaration) (u : Usage) (t : SignalTable) (settled : List Bool) (steps : List ModuleStep)
    → module_items (unplaced_declaration m) u (table_unplaced t) settled (map step_unplaced steps)
    ≡ map placed_unplaced (module_items m u t settled steps)
same_items m u t settled steps =
    walk_so (λ (w : ℕ → Writer) (k : Walk). walk_items w (map signal_unplaced t.signals) k (map step_unplaced steps)) m u t settled
    ∙ same_walk_items (writer_of (is_settled settled) t.signals) t.signals (walk_in m u t settled) steps

same_initials : (m : ModuleDeclaration) (u : Usage) (t : SignalTable) (settled : List Bool) (steps : List ModuleStep)
    → module_initials (unplaced_declaration m) u (table_unplaced t) settled (map step_unplaced steps) ≡ module_initials m u t settled steps
same_initials m u t settled steps =
    walk_so (λ (w : ℕ → Writer) (k : Walk). walk_initials w (map signal_unplaced t.signals) k (map step_unplaced steps)) m u t settled
    ∙ same_walk_initials (writer_of (is_settled settled) t.signals) t.signals (walk_in m u t settled) steps

-- ---- all of it

abbrev all_with : List PlacedItem → List InitialValue → List Signal → List SignalDeclaration → List ℕ → List ℕ → PlacedItems
all_with items initials signals declarations registers inputs =
    record { signals = with_initials initials signals; declarations = declarations; registers = registers; inputs = inputs; items = items }

placed_moves : (m : ModuleDeclaration) (u : Usage) (t : SignalTable) (items : List PlacedItem) (initials : List InitialValue)
    → placed_with (unplaced_declaration m) u (table_unplaced t) (map placed_unplaced items) initials
    ≡ items_unplaced (placed_with m u t items initials)
placed_moves m u t items initials =
    ap₂ (λ (xs : List Signal) (ds : List SignalDeclaration). all_with (map placed_unplaced items) initials xs ds
    (registers (is_settled_by (map placed_unplaced items)) (table_unplaced t)) (data_inputs u.clock (map signal_unplaced t.signals)))
    (same_signals m.name.name.0 u.names t.signals) (same_declarations t.signals)
    ∙ ap₂ (all_with (map placed_unplaced items) initials (unit_signals m.name.name.0 u.names t.signals) (declarations_of t.signals))
    (ap (λ (f : ℕ → Bool). registers f (table_unplaced t)) (same_settled_by items) ∙ same_registers (is_settled_by items) t)
    (same_inputs u.clock t.signals)

same_placed : (m : ModuleDeclaration) (u : Usage) (t : SignalTable) (settled : List Bool) (steps : List ModuleStep)
    → placed_module (unplaced_declaration m) u (table_unplaced t) settled (map step_unplaced steps)
    ≡ items_unplaced (placed_module m u t settled steps)
same_placed m u t settled steps =
    ap₂ (placed_with (unplaced_declaration m) u (table_unplaced t)) (same_items m u t settled steps) (same_initials m u t settled steps)
    ∙ placed_moves m u t (module_items m u t settled steps) (module_initials m u t settled steps)

abbrev built_with : Usage → SizedUnit → Built
built_with u unit = record { unit = unit; shapes = u.children }

same_unit_in : (m : ModuleDeclaration) (u : Usage) (t : SignalTable) (settled : List Bool) (steps : List ModuleStep)
    → unit_in (unplaced_declaration m) u (table_unplaced t) settled (map step_unplaced steps) ≡ answer_unplaced (unit_in m u t settled steps)
same_unit_in m u t settled steps =
    unless_so _ _ _ _
    (both_so _ _ _ _ (same_faults m u t settled steps)
    (ap driver_faults (same_placed m u t settled steps) ∙ same_driver_faults (placed_module m u t settled steps)))
    (ap (built_with u) (ap unit_of (same_placed m u t settled steps) ∙ same_unit (placed_module m u t settled steps)))

same_built : (m : ModuleDeclaration) (u : Usage) → built_module (unplaced_declaration m) u ≡ answer_unplaced (built_module m u)
same_built m u =
    found_so (map step_unplaced) (λ x. x) _ _ _ _ (same_steps m u)
    (λ steps. found_so table_unplaced (λ x. x) _ _ _ _ (same_table m steps)
    (λ t. ap (λ (settled : List Bool). unit_in (unplaced_declaration m) u (table_unplaced t) settled (map step_unplaced steps))
    (same_settled m t steps)
    ∙ same_unit_in m u t (settled_signals m t steps) steps))

-- ---- jobs

unplaced_job : (job : BuildJob) → answer_unplaced (built job) ≡ built_module (unplaced_declaration (module_of job)) (usage_of job)
unplaced_job job = ap answer_unplaced (of_module job) ∙ sym (same_built (module_of job) (usage_of job))

-- where all but places is the same, a fault is the same but for its place
pub same_but_places : (a b : BuildJob)
    → unplaced_declaration (declaration_of a.module.value.body) ≡ unplaced_declaration (declaration_of b.module.value.body)
    → a.parameters ≡ b.parameters → a.clock ≡ b.clock → a.children ≡ b.children → a.names ≡ b.names
    → answer_unplaced (built a) ≡ answer_unplaced (built b)
same_but_places a b modules parameters clock children names =
    unplaced_job a ∙ ap₂ built_module modules (usage_so (usage_of a) (usage_of b) parameters clock children names) ∙ sym (unplaced_job b)

found_again : {A : Type 0} (x : A) (r q : Result A Fault) → answer_unplaced r ≡ answer_unplaced q → r ≡ Ok x → q ≡ Ok x
found_again x (Ok y) (Ok z) same is = sym same ∙ is
found_again x (Ok y) (Err e) same is = cc
found_again x (Err d) q same is = cc

-- and a unit is the same
pub places_change_nothing : (a b : BuildJob) (u : Built)
    → unplaced_declaration (declaration_of a.module.value.body) ≡ unplaced_declaration (declaration_of b.module.value.body)
    → a.parameters ≡ b.parameters → a.clock ≡ b.clock → a.children ≡ b.children → a.names ≡ b.names → built a ≡ Ok u → built b ≡ Ok u
places_change_nothing a b u modules parameters clock children names =
    found_again u (built a) (built b) (same_but_places a b modules parameters clock children names)
