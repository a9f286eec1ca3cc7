use Rattle.std.proofs.Common.{◌≡◌, ◌++◌, map, drop}
use Rattle.typed_ir.specs.Items.{item_of}
use Rattle.verilog_ast.specs.Views.{instance_of}
use Rattle.width_rules.specs.Entries.{scope_of}
use Rattle.unit_build.specs.Instances.{instance_faults, instance_items}
use Rattle.unit_build.proofs.instancing.size_all.Given as goal

abbrev pub invariant-loop-instance : goal.invariant-loop-instance
invariant-loop-instance l = record {
  ahead : instance_faults (scope_of l.scope) l.left (map instance_of (drop l.instance-index l.instances))
      ≡ instance_faults (scope_of l.scope) l.shapes (map instance_of l.instances);
  kept : map item_of l.items.items ++ instance_items (scope_of l.scope) l.child l.left (map instance_of (drop l.instance-index l.instances))
      ≡ instance_items (scope_of l.scope) l.fn.first l.shapes (map instance_of l.instances);
}
