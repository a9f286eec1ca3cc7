use Rattle.std.proofs.Common.{None, map, ap, sym, ◌∙◌}
use Rattle.typed_ir.specs.Cycles.{Signal}
use Rattle.typed_ir.specs.declared.unit_signal.UnitSignal.{UnitSignal}
use Rattle.typed_ir.specs.Units.{signal_within}
use Rattle.driver_rules.specs.Blocks.{first_of, name_at}
use Rattle.driver_rules.proofs.Lists.{at_or_get, at_or_past, at_or_mapped}
use Rattle.driver_rules.proofs.pathing.name_at.Goals as goal

pub returns-then-place-signals : goal.returns-then-place-signals
returns-then-place-signals c =
    sym (at_or_mapped (λ (x : Signal). first_of x.path) signal_within None c.args.signals.now c.index-place.result
    ∙ at_or_get (λ (x : UnitSignal). first_of (signal_within x).path) None c.args.signals.now c.index-place.result _ c.if-place-signals.true)
    ∙ ap (name_at (map signal_within c.args.signals.now)) c.index-place.ensures

pub returns-else-place-signals : goal.returns-else-place-signals
returns-else-place-signals c =
    sym (at_or_mapped (λ (x : Signal). first_of x.path) signal_within None c.args.signals.now c.index-place.result
    ∙ at_or_past (λ (x : UnitSignal). first_of (signal_within x).path) None c.args.signals.now c.index-place.result c.if-place-signals.false)
    ∙ ap (name_at (map signal_within c.args.signals.now)) c.index-place.ensures
