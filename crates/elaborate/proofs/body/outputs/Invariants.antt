use Rattle.std.proofs.Common.{◌≡◌, map, drop}
use Rattle.std.specs.Option.{option_map}
use Rattle.verilog_ast.specs.Views.{declared_of}
use Rattle.elaborate.specs.declared.declaration_kind.DeclarationKind.TheVariants as kind
use Rattle.gen_unroll.specs.Declarations.{declared_name}
use Rattle.gen_unroll.specs.ReachViews.{reach_of}
use Rattle.gen_unroll.specs.Views.{bit_range_of}
use Rattle.elaborate.specs.Checks.{each, body_port}
use Rattle.elaborate.specs.Views.{checked_of}
use Rattle.elaborate.proofs.body.outputs.Given as goal

abbrev pub invariant-loop-port : goal.invariant-loop-port
invariant-loop-port l =
    each (body_port (reach_of l.here) (kind.Output l.net) (option_map bit_range_of l.range) l.shape.signed) (map declared_name (map declared_of (drop l.port-index l.ports))) (checked_of l.check)
    ≡ each (body_port (reach_of l.here) (kind.Output l.net) (option_map bit_range_of l.range) l.shape.signed) (map declared_name (map declared_of l.ports)) (checked_of l.initial.check)
