use Rattle.std.proofs.Common.{sym, subst}
use Rattle.cycle_eval.specs.Designs.{design_flat}
use Rattle.cycle_eval.specs.DesignLaws.{carried_fits}
use Rattle.cycle_eval.specs.Kits.{Fits}
use Rattle.history_replay.proofs.Owning.{owned}
use Rattle.history_replay.proofs.states.carried.Goals as goal

pub invariant_of-result : goal.invariant_of-result
invariant_of-result c =
    let old = c.deref-old.result.now in
    let new = c.deref-new.result.now in
    record {
      fits = owned _ _ _ new c.in_ok-state.state c.in_ok-try_clone.ensures c.deref-2.ensures c.deref-new.ensures
          (subst (Fits (design_flat new)) (sym c.in_ok-state.ensures) (carried_fits c.args.ops.now (design_flat old) (design_flat new) c.args.from.now.state));
    }
