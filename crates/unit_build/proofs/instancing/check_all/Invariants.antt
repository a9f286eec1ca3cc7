use Rattle.std.proofs.Common.{◌≡◌, map, drop}
use Rattle.verilog_ast.specs.Views.{instance_of}
use Rattle.width_rules.specs.Entries.{scope_of}
use Rattle.unit_build.specs.Instances.{instance_kinds}
use Rattle.unit_build.proofs.instancing.check_all.Given as goal

abbrev pub invariant-loop-instance : goal.invariant-loop-instance
invariant-loop-instance l =
    instance_kinds (scope_of l.scope) l.left (map instance_of (drop l.instance-index l.instances)) ≡ instance_kinds (scope_of l.scope) l.shapes (map instance_of l.instances)
