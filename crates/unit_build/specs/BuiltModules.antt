-- The unit of a module by its plain tree and what else a job says: the text of `built`, of which a job has one tree.
use Rattle.std.specs.Prelude.{Bool, List, ◌++◌, Option, Result}
use Rattle.ls_text.specs.declared.fault.Fault.{Fault}
use Rattle.ls_text.specs.declared.name_id.NameId.{NameId}
use Rattle.typed_ir.specs.declared.constant.Const.{Const}
use Rattle.typed_ir.specs.declared.child_shape.ChildShape.{ChildShape}
use Rattle.typed_ir.specs.Items.{PlacedItem, PlacedItems, unit_of}
use Rattle.verilog_ast.specs.Items.{ModuleDeclaration}
use Rattle.gen_unroll.specs.Overriding.{constant_sorts, overrides_of}
use Rattle.gen_unroll.specs.Steps.{ModuleStep}
use Rattle.gen_unroll.specs.Unrolled.{unrolled_module, turn_limit, steps_told}
use Rattle.ls_text.specs.Answers.{◌>>=◌}
use Rattle.gen_unroll.specs.Values.{unless}
use Rattle.gen_unroll.specs.Numbers.{SignalTable, module_table}
use Rattle.gen_unroll.specs.UnitLists.{unit_signals, declarations_of, data_inputs, registers}
use Rattle.gen_unroll.specs.UnitReaches.{unit_reach_in, writer_of, is_settled}
use Rattle.driver_rules.specs.DriverFaults.{driver_faults}
use Rattle.driver_rules.specs.Targets.{is_settled as is_settled_by}
use Rattle.module_registry.specs.declared.build_job.BuildJob.{BuildJob}
use Rattle.module_registry.specs.Building.{Built}
use Rattle.statement_rules.specs.DeclaredValues.{InitialValue}
use Rattle.unit_build.specs.Building.{settled_signals, with_initials}
use Rattle.unit_build.specs.Walks.{Walk, walk_faults, walk_items, walk_initials}

-- what a job says beside its module
pub record Usage : Type 0 where
  pub parameters : List Const
  pub clock : Option NameId
  pub children : List ChildShape
  pub names : List NameId

abbrev pub usage_of : BuildJob → Usage
usage_of job = record { parameters = job.parameters; clock = job.clock; children = job.children; names = job.names }

abbrev pub module_steps : ModuleDeclaration → Usage → Result (List ModuleStep) Fault
module_steps m u = steps_told (unrolled_module turn_limit (overrides_of (constant_sorts m) u.parameters) m)

-- ---- its items, where these variables are settled

abbrev pub walk_in : ModuleDeclaration → Usage → SignalTable → (settled : List Bool) → Walk
walk_in m u t settled = record { here = unit_reach_in (writer_of (is_settled settled) t.signals) t.signals m; child = 0; left = u.children }

abbrev pub module_faults : ModuleDeclaration → Usage → SignalTable → (settled : List Bool) → List ModuleStep → List Fault
module_faults m u t settled steps = walk_faults (writer_of (is_settled settled) t.signals) t.signals (walk_in m u t settled) steps

abbrev pub module_items : ModuleDeclaration → Usage → SignalTable → (settled : List Bool) → List ModuleStep → List PlacedItem
module_items m u t settled steps = walk_items (writer_of (is_settled settled) t.signals) t.signals (walk_in m u t settled) steps

abbrev pub module_initials : ModuleDeclaration → Usage → SignalTable → (settled : List Bool) → List ModuleStep → List InitialValue
module_initials m u t settled steps = walk_initials (writer_of (is_settled settled) t.signals) t.signals (walk_in m u t settled) steps

-- ---- all of it

abbrev pub placed_with : ModuleDeclaration → Usage → SignalTable → List PlacedItem → List InitialValue → PlacedItems
placed_with m u t items initials = record {
  signals = with_initials initials (unit_signals m.name.name.0 u.names t.signals);
  declarations = declarations_of t.signals;
  registers = registers (is_settled_by items) t;
  inputs = data_inputs u.clock t.signals;
  items = items;
}

abbrev pub placed_module : ModuleDeclaration → Usage → SignalTable → (settled : List Bool) → List ModuleStep → PlacedItems
placed_module m u t settled steps = placed_with m u t (module_items m u t settled steps) (module_initials m u t settled steps)

abbrev pub unit_in : ModuleDeclaration → Usage → SignalTable → (settled : List Bool) → List ModuleStep → Result Built Fault
unit_in m u t settled steps =
    unless (module_faults m u t settled steps ++ driver_faults (placed_module m u t settled steps))
    (record { unit = unit_of (placed_module m u t settled steps); shapes = u.children })

abbrev pub built_module : ModuleDeclaration → Usage → Result Built Fault
built_module m u = module_steps m u >>= λ steps. module_table m steps >>= λ t. unit_in m u t (settled_signals m t steps) steps
