use Rattle.std.proofs.Common.{sym, subst}
use Rattle.cycle_eval.specs.Designs.{design_flat}
use Rattle.cycle_eval.specs.DesignLaws.{reset_fits, run_fits}
use Rattle.cycle_eval.specs.Kits.{Fits}
use Rattle.machine_tests.proofs.input_tests.state_in_two_runs.Goals as goal

pub advance-requires-clause-fits : goal.advance-requires-clause-fits
advance-requires-clause-fits g c = subst (Fits (design_flat c.args.design.now)) (sym c.in_ok-start.ensures) (reset_fits (design_flat c.args.design.now))

pub advance-requires-2-clause-fits : goal.advance-requires-2-clause-fits
advance-requires-2-clause-fits g c =
    let flat = design_flat c.args.design.now in
    subst (Fits flat) (sym c.in_ok-state.ensures.value) (run_fits flat _ c.in_ok-start.start (subst (Fits flat) (sym c.in_ok-start.ensures) (reset_fits flat)))
