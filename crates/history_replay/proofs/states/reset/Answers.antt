use Rattle.std.proofs.Common.{sym, subst}
use Rattle.cycle_eval.specs.Designs.{design_flat}
use Rattle.cycle_eval.specs.DesignLaws.{reset_fits}
use Rattle.cycle_eval.specs.Kits.{Fits}
use Rattle.history_replay.proofs.Owning.{owned}
use Rattle.history_replay.proofs.states.reset.Goals as goal

pub invariant_of-result : goal.invariant_of-result
invariant_of-result c =
    let m = c.deref-2.result.now in
    record {
      fits = owned _ _ _ m c.in_ok-state.state c.in_ok-try_clone.ensures c.deref.ensures c.deref-2.ensures
          (subst (Fits (design_flat m)) (sym c.in_ok-state.ensures) (reset_fits (design_flat m)));
    }
