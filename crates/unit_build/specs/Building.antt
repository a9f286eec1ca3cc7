-- The unit of a job: its module by itself, or the first fault in it (IEEE Std 1364-2005, 12.1 to 12.4).
use Rattle.std.specs.Prelude.{ℕ, zero, suc, ◌%◌, ◌^◌, Bool, List, [], ◌∷◌, ◌++◌, Result}
use Rattle.ls_text.specs.declared.fault.Fault.{Fault}
use Rattle.typed_ir.specs.Cycles.{Signal}
use Rattle.typed_ir.specs.Items.{PlacedItem, PlacedItems, unit_of}
use Rattle.verilog_ast.specs.Items.{ModuleDeclaration}
use Rattle.verilog_ast.specs.Views.{declaration_of}
use Rattle.gen_unroll.specs.Steps.{ModuleStep}
use Rattle.gen_unroll.specs.Unrolled.{unrolled_module, turn_limit, steps_told}
use Rattle.ls_text.specs.Answers.{◌>>=◌}
use Rattle.gen_unroll.specs.Values.{unless}
use Rattle.gen_unroll.specs.Numbers.{SignalTable, module_table}
use Rattle.gen_unroll.specs.UnitLists.{unit_signals, declarations_of, data_inputs, registers}
use Rattle.gen_unroll.specs.UnitReaches.{unit_reach_in, writer_of, is_settled}
use Rattle.driver_rules.specs.DriverFaults.{driver_faults}
use Rattle.driver_rules.specs.Targets.{is_settled as is_settled_by}
use Rattle.module_registry.specs.declared.build_job.BuildJob.{BuildJob}
use Rattle.module_registry.specs.Building.{Built}
use Rattle.statement_rules.specs.DeclaredValues.{InitialValue}
use Rattle.gen_unroll.specs.Overriding.{constant_sorts, overrides_of}
use Rattle.unit_build.specs.Settled.{flag_steps, none_of}
use Rattle.unit_build.specs.Walks.{Walk, walk_faults, walk_items, walk_initials}

abbrev pub module_of : BuildJob → ModuleDeclaration
module_of job = declaration_of job.module.value.body

-- ---- its steps

unfoldable pub job_steps : BuildJob → Result (List ModuleStep) Fault
job_steps job =
    steps_told (unrolled_module turn_limit (overrides_of (constant_sorts (module_of job)) job.parameters) (module_of job))

-- ---- which of its variables are settled, by the names that its blocks write

abbrev pub settled_signals : ModuleDeclaration → SignalTable → List ModuleStep → List Bool
settled_signals m t steps =
    flag_steps (writer_of (is_settled []) t.signals) t.signals (unit_reach_in (writer_of (is_settled []) t.signals) t.signals m) steps (none_of t.signals)

-- ---- its items, where these variables are settled

abbrev pub beginning : BuildJob → SignalTable → (settled : List Bool) → Walk
beginning job t settled = record {
  here = unit_reach_in (writer_of (is_settled settled) t.signals) t.signals (module_of job);
  child = 0;
  left = job.children;
}

abbrev pub job_faults : BuildJob → SignalTable → (settled : List Bool) → List ModuleStep → List Fault
job_faults job t settled steps = walk_faults (writer_of (is_settled settled) t.signals) t.signals (beginning job t settled) steps

abbrev pub job_items : BuildJob → SignalTable → (settled : List Bool) → List ModuleStep → List PlacedItem
job_items job t settled steps = walk_items (writer_of (is_settled settled) t.signals) t.signals (beginning job t settled) steps

abbrev pub job_initials : BuildJob → SignalTable → (settled : List Bool) → List ModuleStep → List InitialValue
job_initials job t settled steps = walk_initials (writer_of (is_settled settled) t.signals) t.signals (beginning job t settled) steps

-- ---- its signals, with what they have at the beginning

-- the signal of a number begins with a value, cut to its width
abbrev pub begins_with : ℕ → ℕ → List Signal → List Signal
begins_with k value [] = []
begins_with zero value (x ∷ xs) = record x { initial = value % 2 ^ x.width } ∷ xs
begins_with (suc k) value (x ∷ xs) = x ∷ begins_with k value xs

abbrev pub with_initials : List InitialValue → List Signal → List Signal
with_initials [] xs = xs
with_initials (v ∷ vs) xs = with_initials vs (begins_with v.signal v.value xs)

-- ---- all of it

-- with these items and values; registers are the variables that no combinational block among the items writes
abbrev pub placed : BuildJob → SignalTable → List PlacedItem → List InitialValue → PlacedItems
placed job t items initials = record {
  signals = with_initials initials (unit_signals (module_of job).name.name.0 job.names t.signals);
  declarations = declarations_of t.signals;
  registers = registers (is_settled_by items) t;
  inputs = data_inputs job.clock t.signals;
  items = items;
}

abbrev pub placed_items : BuildJob → SignalTable → (settled : List Bool) → List ModuleStep → PlacedItems
placed_items job t settled steps = placed job t (job_items job t settled steps) (job_initials job t settled steps)

-- item by item, and then those of drivers
abbrev pub unit_faults : BuildJob → SignalTable → (settled : List Bool) → List ModuleStep → List Fault
unit_faults job t settled steps = job_faults job t settled steps ++ driver_faults (placed_items job t settled steps)

abbrev pub unit_with : BuildJob → SignalTable → (settled : List Bool) → List ModuleStep → Result Built Fault
unit_with job t settled steps =
    unless (unit_faults job t settled steps) (record { unit = unit_of (placed_items job t settled steps); shapes = job.children })

-- the first fault of its ranges, of its items or of its drivers, else its unit
unfoldable pub built : BuildJob → Result Built Fault
built job =
    job_steps job
    >>= λ steps. module_table (module_of job) steps
    >>= λ t. unit_with job t (settled_signals (module_of job) t steps) steps
