use Rattle.std.proofs.Common.{◌≡◌, ◌∙◌, ap, rules, subst, sym, true}
use Rattle.book_history.specs.Book.{Settings as BookSettings}
use Rattle.book_history.specs.Owned.{owned}
use Rattle.book_turn.specs.Known.{begun}
use Rattle.book_turn.specs.Passes.{known}
use Rattle.live_options.specs.Words.{options_of}
use denote.Param.Send.{sendable}
use Rattle.std.proofs.Crossing.{crosses}
use Rattle.cycle_eval.proofs.DesignsShared.{design_send, design_sync, inputs_send, inputs_sync, ops_send, ops_sync, state_send}
use Rattle.live_session.specs.AtTurn.{carried_settings, log_of}
use Rattle.live_session.specs.Sessions.{settings_of}
use Rattle.livesim.specs.Settings.{settings}
use Rattle.livesim.specs.Turns.{source_at, shelf_at}
use Rattle.livesim.specs.Working.{IsReadyAt}
use Rattle.livesim.proofs.Over.{made_with, stopped_lived}
use Rattle.livesim.proofs.Working.{alone_all, lived_at, made_ready, ready_split, worked_lived, works_as}
use Rattle.livesim.proofs.live.run.Goals as goal

pub new-requires-3-send-M : goal.new-requires-3-send-M
new-requires-3-send-M g c κs = search (design_send, sendable, crosses) depth 40 fits 20000

pub new-requires-3-sync-M : goal.new-requires-3-sync-M
new-requires-3-sync-M g c κs = search (design_sync, sendable, crosses) depth 40 fits 20000

pub make-requires-send-B : goal.make-requires-send-B
make-requires-send-B g c κs within = search (design_send, design_sync, state_send, inputs_send, inputs_sync, ops_send, ops_sync, sendable, crosses) depth 60 fits 100000

pub returns-in_default-clause-lived : goal.returns-in_default-clause-lived
returns-in_default-clause-lived g c =
    stopped_lived (settings (options_of c.args.options)) (source_at (g.S.Source.left c.args.source.now) (g.S.Source.faults c.args.source.now))
    (shelf_at (g.F.Shelf.answers c.args.shelf.now) (g.F.Shelf.faults c.args.shelf.now)) (g.K.Sink.written c.args.sink.now) _ _ c.stopped.result.history
    c.stopped.ensures.taken c.stopped.ensures.status c.stopped.ensures.events

pub returns-in_default-make-clause-lived : goal.returns-in_default-make-clause-lived
returns-in_default-make-clause-lived g c =
    stopped_lived (settings (options_of c.args.options)) (source_at (g.S.Source.left c.args.source.now) (g.S.Source.faults c.args.source.now))
    (shelf_at (g.F.Shelf.answers c.args.shelf.now) (g.F.Shelf.faults c.args.shelf.now)) (g.K.Sink.written c.args.sink.now) _ _
    c.stopped-in_default-make.result.history c.stopped-in_default-make.ensures.taken c.stopped-in_default-make.ensures.status
    c.stopped-in_default-make.ensures.events

pub beside_workers-pass-requires-clause-ready : goal.beside_workers-pass-requires-clause-ready
beside_workers-pass-requires-clause-ready g c κs within = λ u same.
    let its = c.in-Ok-Ok-Ok in
    let made : known c.in-Ok.pass ≡ begun its.book.value = c.in-Ok.ensures.1 in
    let ready = made_ready its.session its.reader (known c.in-Ok.pass) its.book.value made its.ensures''.events
    (its.ensures'.beside its.book.value its.ensures''.events (ap (λ (s : BookSettings). s.rooms) its.ensures''.settings))
    its.ensures'.fresh (λ options. ap (settings_of options.interval options.lookback) its.ensures'.limits) its.ensures.left its.ensures.number
    its.ensures.taken its.ensures.ended its.ensures.stop in
    record {
      may_call = λ t p at knew. (
        at.turn,
        (
          subst (λ v. IsReadyAt its.session its.reader v) (sym knew) (ready_split its.session its.reader (known c.in-Ok.pass) u same ready),
          search rules,
        ),
      );
      stays = λ t p q a f at knew step. (step.met.1.0, step.met.1.1.0);
    }

pub returns-clause-lived : goal.returns-clause-lived
returns-clause-lived g c =
    let o = options_of c.args.options in
    let its = c.in-Ok-Ok-Ok in
    let made : known c.in-Ok.pass ≡ begun its.book.value = c.in-Ok.ensures.1 in
    let last = c.beside_workers-pass in
    let worked = last.ensures.worked in
    let did = worked.worked.did in
    let lived = worked_lived o (known c.in-Ok.pass) worked.before worked.worked.after worked.behind (known last.result.pass) c.history_of.result _ _ _ _ _ _ _ _
    (made_with o (log_of (known c.in-Ok.pass)) (ap (λ x. carried_settings x.settings) made ∙ its.ensures''.settings)) worked.started.else_same
    (works_as _ _ _ _ _ did.knew did.knows did.called.met.1.1.1) worked.worked.closed worked.all_joined.own worked.all_joined.settings worked.all_joined.begins
    last.ensures.turn.kind c.history_of.ensures.learned c.history_of.ensures.legal in
    lived_at (settings o) _ _ _ _ _ _ _ _ _ _ _ _ _ _ _ _ (search rules) (search rules) (search rules) (search rules) (search rules) lived

pub returns-clause-alone : goal.returns-clause-alone
returns-clause-alone g c = λ none.
    let its = c.in-Ok-Ok-Ok in
    let made : known c.in-Ok.pass ≡ begun its.book.value = c.in-Ok.ensures.1 in
    let last = c.beside_workers-pass in
    let alone = last.ensures.none (c.from.ensures ∙ none) in
    let only : (known last.result.pass).alone ≡ true = alone.closed.alone ∙ alone.goes.added.alone ∙ ap (λ x. x.alone) made in
    alone_all (known c.in-Ok.pass) alone.after (known last.result.pass) c.history_of.result (ap (λ x. x.seen) made ∙ its.ensures''.events)
    (ap (λ x. x.own) made ∙ ap owned its.ensures''.events) (ap (λ x. x.alone) made) alone.goes alone.closed
    (c.history_of.ensures.learned.own last.ensures.turn.kind) (c.history_of.ensures.alone only)
