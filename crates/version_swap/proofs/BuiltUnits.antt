-- The units that are built from jobs are those of copies of their modules.
use Rattle.std.proofs.Common.{◌≡◌, ℕ, List, [], ◌∷◌, Result, Ok, Err, refl, sym, ◌∙◌, ap, subst}
use Rattle.ls_text.specs.declared.fault.Fault.{Fault}
use Rattle.typed_ir.specs.Orders.{Each}
use Rattle.typed_ir.specs.declared.child_shape.ChildShape.{ChildShape}
use Rattle.typed_ir.specs.Items.{unit_of}
use Rattle.typed_ir.specs.Trees as t
use Rattle.typed_ir.specs.Trees.{SizedUnit, Instances, flat_of_tree}
use Rattle.width_rules.proofs.Reading.{left_none}
use Rattle.gen_unroll.specs.Overriding.{constant_sorts, overrides_of}
use Rattle.gen_unroll.specs.Steps.{ModuleStep}
use Rattle.gen_unroll.specs.Unrolled.{State, unrolled_module, turn_limit}
use Rattle.ls_text.specs.Answers.{◌>>=◌}
use Rattle.gen_unroll.specs.Values.{unless}
use Rattle.gen_unroll.proofs.Answered.{ok_same}
use Rattle.module_registry.specs.declared.build_job.BuildJob.{BuildJob}
use Rattle.module_registry.specs.Building.{Built}
use Rattle.driver_rules.specs.DriverFaults.{driver_faults}
use Rattle.gen_unroll.specs.Numbers.{SignalTable, module_table}
use Rattle.unit_build.specs.Building.{module_of, job_steps, settled_signals, job_faults, placed_items, unit_faults, unit_with, built}
use Rattle.unit_build.proofs.ConnectedTexts.{HasWrittenInstances}
use Rattle.unit_build.proofs.ItemLaws.{IsStepWritten}
use Rattle.version_swap.specs.BuiltCopies.{copy_of, IsBuilt, AreBuilt}
use Rattle.version_swap.specs.Copies.{ModuleCopy, Copies, Nothing, One}
use Rattle.version_swap.specs.Flat.{writers_in, beginning_of, flat}
use Rattle.version_swap.specs.Units.{placed_copy, HavePorts, IsUnitOf, AreUnitsOf}
use Rattle.version_swap.proofs.Copied.{IsRenumbered, AreRenumbered}
use Rattle.version_swap.proofs.Copies.{copied_items_are}
use Rattle.version_swap.proofs.FlatTrees.{tree_is_flat}
use Rattle.version_swap.proofs.WrittenModules.{module_written}
use Rattle.version_swap.proofs.WrittenSteps.{AreWritten, steps_so}

-- ---- answers

abbrev pub HasAnswer : {A : Type 0} → Result A Fault → Type 0
HasAnswer (Ok x) = Unit {0}
HasAnswer (Err f) = ⊥

-- ---- the steps of a job

told_so : (said ss : List ModuleStep) (r : Result State Fault) → (r >>= λ st. Ok said) ≡ Ok ss → said ≡ ss
told_so said ss (Ok st) is = ok_same said ss is
told_so said ss (Err f) is = absurd (subst HasAnswer (sym is) tt)

-- are written as a parser writes them
pub job_written : (job : BuildJob) (ss : List ModuleStep) → job_steps job ≡ Ok ss → AreWritten ss
unfolding job_steps
job_written job ss is =
    let overrides = overrides_of (constant_sorts (module_of job)) job.parameters in
    let told = unrolled_module turn_limit overrides (module_of job) in
    subst AreWritten (told_so told.said ss told.ending is) (steps_so turn_limit overrides (module_of job) (module_written job.module.value.body))

-- ---- its unit

-- no fault, and this value
record IsKept {A : Type 0} (fs : List Fault) (x y : A) : Type 0 where
  none : fs ≡ []
  same : x ≡ y

kept : {A : Type 0} (fs : List Fault) (x y : A) → unless fs x ≡ Ok y → IsKept fs x y
kept [] x y is = record { none = refl; same = ok_same x y is }
kept (f ∷ fs) x y is = absurd (subst HasAnswer (sym is) tt)

unit_from_parts : (job : BuildJob) (steps : List ModuleStep) (table : SignalTable) (b : Built) → job_steps job ≡ Ok steps
    → module_table (module_of job) steps ≡ Ok table
    → built job ≡ Ok b → unit_with job table (settled_signals (module_of job) table steps) steps ≡ Ok b
unfolding built
unit_from_parts job steps table b stepped tabled is =
    sym (ap (λ r. r >>= λ ss. module_table (module_of job) ss >>= λ t. unit_with job t (settled_signals (module_of job) t ss) ss) stepped
    ∙ ap (λ r. r >>= λ t. unit_with job t (settled_signals (module_of job) t steps) steps) tabled)
    ∙ is

job_unit : (job : BuildJob) (steps : List ModuleStep) (table : SignalTable) (shapes : List ChildShape) (within : Copies) (name : ℕ) (u : SizedUnit)
    → job_steps job ≡ Ok steps → module_table (module_of job) steps ≡ Ok table → built job ≡ Ok (record { unit = u; shapes = shapes })
    → HavePorts shapes within
    → IsUnitOf (copy_of name job steps table) within name u
job_unit job steps table shapes within name u stepped tabled is ports =
    let settled = settled_signals (module_of job) table steps in
    let placed = placed_items job table settled steps in
    let here = kept (unit_faults job table settled steps) (record { unit = unit_of placed; shapes = job.children })
    (record { unit = u; shapes = shapes })
    (unit_from_parts job steps table (record { unit = u; shapes = shapes }) stepped tabled is) in
    record {
      called = refl;
      made = sym (ap (λ (b : Built). b.unit) here.same);
      no_fault = left_none (job_faults job table settled steps) (driver_faults placed) here.none;
      ports = subst (λ (ss : List ChildShape). HavePorts ss within) (sym (ap (λ (b : Built). b.shapes) here.same)) ports;
    }

pub unit_made : (c : ModuleCopy) (name : ℕ) (u : SizedUnit) (job : BuildJob) (shapes : List ChildShape) → job_steps job ≡ Ok c.steps
    → module_table (module_of job) c.steps ≡ Ok c.table → c ≡ copy_of name job c.steps c.table → built job ≡ Ok (record { unit = u; shapes = shapes })
    → u ≡ unit_of (placed_copy c)
unit_made c name u job shapes stepped tabled copied is =
    let settled = settled_signals (module_of job) c.table c.steps in
    let placed = placed_items job c.table settled c.steps in
    let here = kept (unit_faults job c.table settled c.steps) (record { unit = unit_of placed; shapes = job.children })
    (record { unit = u; shapes = shapes })
    (unit_from_parts job c.steps c.table (record { unit = u; shapes = shapes }) stepped tabled is) in
    sym (ap (λ (b : Built). b.unit) here.same) ∙ ap (λ (d : ModuleCopy). unit_of (placed_copy d)) (sym copied)

-- ---- a copy of a job

pub built_unit : (c : ModuleCopy) (within : Copies) (name : ℕ) (u : SizedUnit) → IsBuilt c within name u → IsUnitOf c within name u
built_unit c within name u is =
    subst (λ (d : ModuleCopy). IsUnitOf d within name u) (sym is.copied)
    (job_unit is.job c.steps c.table is.shapes within name u is.steps is.signals is.made is.ports)

steps_written : (ss : List ModuleStep) → AreWritten ss → Each IsStepWritten ss
steps_written [] w = tt
steps_written (s ∷ ss) w = (w.0.0, steps_written ss w.1)

instances_written : (ss : List ModuleStep) → AreWritten ss → Each HasWrittenInstances ss
instances_written [] w = tt
instances_written (s ∷ ss) w = (w.0.1.0, instances_written ss w.1)

built_renumbered : (c : ModuleCopy) (within : Copies) (name : ℕ) (u : SizedUnit) → IsBuilt c within name u → IsRenumbered c
built_renumbered c within name u is g =
    let written = job_written is.job c.steps is.steps in
    copied_items_are g (writers_in c) c.table.signals (beginning_of c) c.steps (steps_written c.steps written) (instances_written c.steps written)
    (built_unit c within name u is).no_fault

-- ---- all of them

units_are : (copies : Copies) (tree : Instances) → AreBuilt copies tree → AreUnitsOf copies tree
units_are Nothing t.Nothing are = tt
units_are Nothing (t.One name u inner later) are = absurd are
units_are (One c within after) t.Nothing are = absurd are
units_are (One c within after) (t.One name u inner later) are =
    (built_unit c within name u are.0, (units_are within inner are.1.0, units_are after later are.1.1))

all_renumbered : (copies : Copies) (tree : Instances) → AreBuilt copies tree → AreRenumbered copies
all_renumbered Nothing t.Nothing are = tt
all_renumbered Nothing (t.One name u inner later) are = absurd are
all_renumbered (One c within after) t.Nothing are = absurd are
all_renumbered (One c within after) (t.One name u inner later) are =
    (built_renumbered c within name u are.0, (all_renumbered within inner are.1.0, all_renumbered after later are.1.1))

pub built_is_flat : (copies : Copies) (tree : Instances) → AreBuilt copies tree → flat_of_tree tree ≡ flat copies
built_is_flat copies tree are = tree_is_flat copies tree (all_renumbered copies tree are) (units_are copies tree are)
