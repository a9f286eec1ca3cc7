use Rattle.std.proofs.Common.{◌≡◌, map, drop}
use Rattle.std.specs.Option.{option_map}
use Rattle.verilog_ast.specs.Views.{declared_of}
use Rattle.gen_unroll.specs.ReachViews.{reach_of}
use Rattle.gen_unroll.specs.Views.{bit_range_of}
use Rattle.elaborate.specs.Checks.{each, wire}
use Rattle.elaborate.specs.Views.{checked_of}
use Rattle.elaborate.proofs.body.wires.Given as goal

abbrev pub invariant-loop-net : goal.invariant-loop-net
invariant-loop-net l =
    each (wire (reach_of l.here) (option_map bit_range_of l.range) l.shape.signed) (map declared_of (drop l.net-index l.nets)) (checked_of l.check)
    ≡ each (wire (reach_of l.here) (option_map bit_range_of l.range) l.shape.signed) (map declared_of l.nets) (checked_of l.initial.check)
