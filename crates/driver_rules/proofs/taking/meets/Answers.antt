use Rattle.std.proofs.Common.{◌∙◌, ap}
use Rattle.std.specs.Prelude.{slice_index}
use Rattle.driver_rules.proofs.Bits.{meets_is}
use Rattle.driver_rules.proofs.taking.meets.Goals as goal

pub returns : goal.returns
returns c =
    c.meet.ensures
    ∙ meets_is c.args.taken.now c.args.span c.run_mask-mask.result (slice_index c.args.taken.now c.index-signal.result)
    (ap (slice_index c.args.taken.now) c.index-signal.ensures) c.run_mask-mask.ensures
