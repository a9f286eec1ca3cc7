use Rattle.std.proofs.Common.{sym, subst}
use Rattle.cycle_eval.specs.Designs.{design_flat}
use Rattle.cycle_eval.specs.DesignLaws.{reset_fits}
use Rattle.cycle_eval.specs.Kits.{Fits}
use Rattle.register_tests.proofs.table_tests.beginning.Goals as goal

pub table-requires : goal.table-requires
table-requires c = subst (Fits (design_flat c.args.design.now)) (sym c.in_ok-state.ensures) (reset_fits (design_flat c.args.design.now))
