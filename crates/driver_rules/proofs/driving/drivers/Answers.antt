use Rattle.std.proofs.Common.{◌++◌}
use Rattle.typed_ir.specs.Valuations.{nowhere}
use Rattle.typed_ir.specs.Items.{items_of}
use Rattle.width_rules.proofs.Firsts.{neither}
use Rattle.driver_rules.specs.Targets.{is_settled, all_target_faults}
use Rattle.driver_rules.specs.Doubles.{double_faults}
use Rattle.driver_rules.specs.Blocks.{block_faults}
use Rattle.driver_rules.proofs.Empty.{all_within}
use Rattle.driver_rules.proofs.Wholes.{unit_driven}
use Rattle.driver_rules.proofs.driving.drivers.Goals as goal

pub take_bits-requires : goal.take_bits-requires
take_bits-requires c =
    let p = items_of c.args.items.now in
    all_within p.declarations (is_settled p.items) p.items c.in_ok-check_written.ensures.faultless

pub check_paths-requires : goal.check_paths-requires
check_paths-requires c =
    let p = items_of c.args.items.now in
    all_within p.declarations (is_settled p.items) p.items c.in_ok-check_written.ensures.faultless

pub returns-clause-unit : goal.returns-clause-unit
returns-clause-unit c =
    let p = items_of c.args.items.now in
    let targets = all_target_faults p.declarations (is_settled p.items) p.items in
    let doubles = double_faults nowhere p.items in
    let blocks = block_faults p.signals p.declarations p.items in
    unit_driven c.whole_blocks.ensures p
    (neither targets (doubles ++ blocks) c.in_ok-check_written.ensures.faultless
    (neither doubles blocks c.in_ok-drivers.ensures.faultless c.in_ok-check_paths.ensures.faultless))
