use Rattle.std.proofs.Common.{sym, subst}
use Rattle.cycle_eval.specs.Designs.{design_flat}
use Rattle.cycle_eval.specs.DesignLaws.{run_fits}
use Rattle.cycle_eval.specs.Kits.{Fits}
use Rattle.history_replay.proofs.Owning.{owned, read_fits}
use Rattle.history_replay.proofs.states.counted.Goals as goal

pub invariant_of-result : goal.invariant_of-result
invariant_of-result g c =
    let m = c.deref-design.result.now in
    let from = c.args.from.now in
    let before : Fits (design_flat m) from.state = read_fits _ _ m from.state c.deref.ensures c.deref-design.ensures from.fits in
    record {
      fits = owned _ _ _ m c.in_ok-state.state c.in_ok-try_clone.ensures c.deref.ensures c.deref-design.ensures
          (subst (Fits (design_flat m)) (sym c.in_ok-state.ensures.value) (run_fits (design_flat m) _ from.state before));
    }
