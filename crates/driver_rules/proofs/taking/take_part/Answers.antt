use Rattle.std.proofs.Common.{refl}
use Rattle.std.specs.Prelude.{slice_index}
use Rattle.driver_rules.proofs.Doubles.{part_grows}
use Rattle.driver_rules.proofs.taking.take_part.Goals as goal

pub returns : goal.returns
returns c =
    part_grows c.args.by.now c.args.taken.now c.index-signal.result c.args.span c.run_mask-mask.result (slice_index c.args.taken.now c.index-signal.result)
    c.args.drivers.now.items c.add_runs.new.drivers.items c.index-signal.ensures c.requires refl c.run_mask-mask.ensures c.in_ok-add_runs.ensures
