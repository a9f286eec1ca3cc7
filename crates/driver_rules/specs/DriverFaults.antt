-- What may be wrong with the drivers of a module's bits: a list of possible faults, of which the first is the answer.
use Rattle.std.specs.Prelude.{List, ◌++◌}
use Rattle.ls_text.specs.declared.fault.Fault.{Fault}
use Rattle.typed_ir.specs.Valuations.{nowhere}
use Rattle.typed_ir.specs.Items.{PlacedItems}
use Rattle.driver_rules.specs.Targets.{is_settled, all_target_faults}
use Rattle.driver_rules.specs.Doubles.{double_faults}
use Rattle.driver_rules.specs.Blocks.{block_faults}

-- all targets (33), then all bits that are driven twice (34), then block by block (36, 35)
abbrev pub driver_faults : PlacedItems → List Fault
driver_faults p =
    all_target_faults p.declarations (is_settled p.items) p.items
    ++ (double_faults nowhere p.items ++ block_faults p.signals p.declarations p.items)
