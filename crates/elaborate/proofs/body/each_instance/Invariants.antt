use Rattle.std.proofs.Common.{◌≡◌, map, drop}
use Rattle.verilog_ast.specs.Views.{instance_of, declaration_of}
use Rattle.gen_unroll.specs.ReachViews.{reach_of}
use Rattle.gen_unroll.specs.Views.{override_view}
use Rattle.elaborate.specs.Checks.{each, one_instance}
use Rattle.elaborate.specs.Views.{checked_of}
use Rattle.elaborate.proofs.body.each_instance.Given as goal

abbrev pub invariant-loop-instance : goal.invariant-loop-instance
invariant-loop-instance l =
    each (one_instance (reach_of l.here) (declaration_of l.of.body.now) l.instantiated (map override_view l.overrides)) (map instance_of (drop l.instance-index l.instances)) (checked_of l.check)
    ≡ each (one_instance (reach_of l.here) (declaration_of l.of.body.now) l.instantiated (map override_view l.overrides)) (map instance_of l.instances) (checked_of l.initial.check)
