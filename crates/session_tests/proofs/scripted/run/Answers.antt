use Rattle.std.proofs.Common.{ap, rules, subst, sym}
use denote.Param.Send.{sendable}
use Rattle.std.proofs.Crossing.{crosses}
use Rattle.book_history.specs.Book.{Settings as BookSettings}
use Rattle.live_session.specs.AtTurn.{StandsAt}
use Rattle.cycle_eval.proofs.DesignsShared.{design_send, design_sync, inputs_send, inputs_sync, ops_send, ops_sync, state_send}
use Rattle.live_session.proofs.StandingAtTurn.{made_at, split_stands}
use Rattle.session_tests.proofs.scripted.run.Goals as goal

pub new-requires-3-send-M : goal.new-requires-3-send-M
new-requires-3-send-M g c κs = search (design_send, sendable, crosses) depth 40 fits 20000

pub new-requires-3-sync-M : goal.new-requires-3-sync-M
new-requires-3-sync-M g c κs = search (design_sync, sendable, crosses) depth 40 fits 20000

pub make-requires-send-B : goal.make-requires-send-B
make-requires-send-B g c κs within = search (design_send, design_sync, state_send, inputs_send, inputs_sync, ops_send, ops_sync, sendable, crosses) depth 60 fits 100000

pub beside-pass-requires-clause-ready : goal.beside-pass-requires-clause-ready
beside-pass-requires-clause-ready g c κs within = λ u same.
    let at = made_at _ _ _ c.in_ok-turn.ensures.1 c.in_ok-book.ensures.events
    (c.in_ok-session.ensures.beside _ c.in_ok-book.ensures.events (ap (λ (s : BookSettings). s.rooms) c.in_ok-book.ensures.settings)) in
    record {
      may_call = λ t p works knew. (
        works.turn,
        (c.in_ok-reader.ensures.stop, (subst (λ v. StandsAt c.in_ok-session.session v) (sym knew) (split_stands _ _ u same at), search rules)),
      );
      stays = λ t p q a f works knew step. (step.met.1.0, step.met.1.1.0);
    }
