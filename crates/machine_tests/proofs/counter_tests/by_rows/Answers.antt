use Rattle.std.proofs.Common.{sym, subst}
use Rattle.cycle_eval.specs.Designs.{design_flat}
use Rattle.cycle_eval.specs.DesignLaws.{reset_fits}
use Rattle.cycle_eval.specs.Kits.{Fits}
use Rattle.machine_tests.proofs.counter_tests.by_rows.Goals as goal

pub carry-requires-clause-fits : goal.carry-requires-clause-fits
carry-requires-clause-fits g c = subst (Fits (design_flat c.args.design.now)) (sym c.in_ok-start.ensures) (reset_fits (design_flat c.args.design.now))
