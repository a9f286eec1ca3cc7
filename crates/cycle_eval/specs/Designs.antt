-- The flat design that an evaluator runs.
use Rattle.std.specs.Prelude.{ℕ, ◌+◌, List, length}
use Rattle.typed_ir.specs.declared.instance_name.InstanceName.{InstanceName}
use Rattle.typed_ir.specs.declared.signal.Signal.{Signal}
use Rattle.typed_ir.specs.Cycles.{Flat}
use Rattle.typed_ir.specs.Linkeds.{flat}
use Rattle.cycle_eval.specs.declared.design.Design.{Design}

abbrev pub design_flat : Design → Flat
design_flat d = flat d.linked.design

-- each node and each clocked block is one step of a cycle
abbrev pub work_of : Design → ℕ
work_of d = length d.linked.design.nodes.items + length d.linked.design.clocked.items

-- the rows of its instances, and its signals with their numbers: those of the flat design have the paths that these give
abbrev pub instances_of : Design → List InstanceName
instances_of d = d.linked.design.instances.rows.items

abbrev pub signals_of : Design → List Signal
signals_of d = d.linked.design.signals.items
