use Rattle.std.proofs.Common.{◌≡◌, drop}
use Rattle.std.specs.Option.{option_map}
use Rattle.elaborate.specs.declared.declaration_kind.DeclarationKind.TheVariants as kind
use Rattle.gen_unroll.specs.ReachViews.{reach_of}
use Rattle.gen_unroll.specs.Views.{bit_range_of}
use Rattle.elaborate.specs.Checks.{each, body_port}
use Rattle.elaborate.specs.Views.{checked_of}
use Rattle.elaborate.proofs.body.inputs.Given as goal

abbrev pub invariant-loop-name : goal.invariant-loop-name
invariant-loop-name l =
    each (body_port (reach_of l.here) (kind.Input l.net) (option_map bit_range_of l.range) l.shape.signed) (drop l.name-index l.names) (checked_of l.check)
    ≡ each (body_port (reach_of l.here) (kind.Input l.net) (option_map bit_range_of l.range) l.shape.signed) l.names (checked_of l.initial.check)
