use Rattle.std.proofs.Common.{lit<}
use denote.Param.Send.{sendable}
use Rattle.std.proofs.Crossing.{crosses}
use Rattle.book_turn.proofs.Turns.{goes_more}
use Rattle.book_turn.specs.Passes.{known}
use Rattle.live_session.proofs.Among.{beside_there, meets}
use Rattle.cycle_eval.proofs.DesignsShared.{design_send, design_sync, inputs_send, inputs_sync, ops_send, ops_sync, state_send}
use Rattle.live_session.proofs.InTurn.{adds_of, may_leave, stands_then, steps_then, stops_then}
use Rattle.live_session.proofs.session.Session.step_in_turn.Goals as goal

pub step_beside-reply-requires-clause-beside : goal.step_beside-reply-requires-clause-beside
step_beside-reply-requires-clause-beside g c κs within =
    let s = c.args.self.now in
    let v = known c.args.pass.now in
    let i = c.deref_mut-book.result.now in
    let m = meets s v i c.enter-boxed.result.value c.deref_mut-book.ensures.value c.enter-boxed.ensures.learned c.requires.turn.kind c.requires.at
    c.legal.ensures in
    beside_there v i m s c.requires.at.stands

pub leave-requires-after_bounds : goal.leave-requires-after_bounds
leave-requires-after_bounds g c κs within =
    let s = c.args.self.now in
    let t = c.step_beside-reply.new.self in
    let v = known c.args.pass.now in
    let w = known c.enter-boxed.new.pass in
    let i = c.deref_mut-book.result.now in
    let l = c.step_beside-reply.new.book in
    let m = meets s v i c.enter-boxed.result.value c.deref_mut-book.ensures.value c.enter-boxed.ensures.learned c.requires.turn.kind c.requires.at
    c.legal.ensures in
    let adds = adds_of _ c.requires.plain _ _ _ _ s t i l c.step_beside-reply.result c.step_beside-reply.ensures.steps
    c.step_beside-reply.ensures.stops in (
      lit< tt,
      (
        c.enter-boxed.ensures.turn,
        may_leave s t v w w i c.enter-boxed.result.value l c.enter-boxed.ensures.known c.deref_mut-book.ensures.value c.requires.turn.kind
            c.requires.at c.enter-boxed.ensures.learned m adds,
      ),
    )

pub returns-clause-steps : goal.returns-clause-steps
returns-clause-steps g c =
    let s = c.args.self.now in
    let t = c.step_beside-reply.new.self in
    let v = known c.args.pass.now in
    let w = known c.enter-boxed.new.pass in
    let i = c.deref_mut-book.result.now in
    let l = c.step_beside-reply.new.book in
    let m = meets s v i c.enter-boxed.result.value c.deref_mut-book.ensures.value c.enter-boxed.ensures.learned c.requires.turn.kind c.requires.at
    c.legal.ensures in
    let adds = adds_of _ c.requires.plain _ _ _ _ s t i l c.step_beside-reply.result c.step_beside-reply.ensures.steps
    c.step_beside-reply.ensures.stops in
    steps_then s t v w (known c.leave.new.pass) i c.enter-boxed.result.value l c.enter-boxed.ensures.known c.deref_mut-book.ensures.value
    c.requires.turn.kind c.requires.at c.enter-boxed.ensures.learned m adds c.leave.ensures.known _ _ _ _ _ c.step_beside-reply.result
    c.step_beside-reply.ensures.steps

pub returns-clause-stops : goal.returns-clause-stops
returns-clause-stops g c =
    let s = c.args.self.now in
    let t = c.step_beside-reply.new.self in
    let v = known c.args.pass.now in
    let w = known c.enter-boxed.new.pass in
    let i = c.deref_mut-book.result.now in
    let l = c.step_beside-reply.new.book in
    let m = meets s v i c.enter-boxed.result.value c.deref_mut-book.ensures.value c.enter-boxed.ensures.learned c.requires.turn.kind c.requires.at
    c.legal.ensures in
    let adds = adds_of _ c.requires.plain _ _ _ _ s t i l c.step_beside-reply.result c.step_beside-reply.ensures.steps
    c.step_beside-reply.ensures.stops in
    stops_then s t v w (known c.leave.new.pass) i c.enter-boxed.result.value l c.enter-boxed.ensures.known c.deref_mut-book.ensures.value
    c.requires.turn.kind c.requires.at c.enter-boxed.ensures.learned m adds c.leave.ensures.known _ _ _ _ _ c.step_beside-reply.result
    c.step_beside-reply.ensures.stops

pub returns-clause-at : goal.returns-clause-at
returns-clause-at g c =
    let s = c.args.self.now in
    let t = c.step_beside-reply.new.self in
    let v = known c.args.pass.now in
    let w = known c.enter-boxed.new.pass in
    let i = c.deref_mut-book.result.now in
    let l = c.step_beside-reply.new.book in
    let m = meets s v i c.enter-boxed.result.value c.deref_mut-book.ensures.value c.enter-boxed.ensures.learned c.requires.turn.kind c.requires.at
    c.legal.ensures in
    let adds = adds_of _ c.requires.plain _ _ _ _ s t i l c.step_beside-reply.result c.step_beside-reply.ensures.steps
    c.step_beside-reply.ensures.stops in
    stands_then s t v w (known c.leave.new.pass) i c.enter-boxed.result.value l c.enter-boxed.ensures.known c.deref_mut-book.ensures.value
    c.requires.turn.kind c.requires.at c.enter-boxed.ensures.learned m adds c.leave.ensures.known c.legal-2.ensures
    c.step_beside-reply.ensures.beside

pub returns-clause-goes : goal.returns-clause-goes
returns-clause-goes g c = goes_more _ _ _ c.enter-boxed.ensures.goes c.leave.ensures.goes

pub enter-boxed-requires-send-B : goal.enter-boxed-requires-send-B
enter-boxed-requires-send-B g c κs within = search (design_send, design_sync, state_send, inputs_send, inputs_sync, ops_send, ops_sync, sendable, crosses) depth 60 fits 100000

pub leave-requires-send-B : goal.leave-requires-send-B
leave-requires-send-B g c κs within = search (design_send, design_sync, state_send, inputs_send, inputs_sync, ops_send, ops_sync, sendable, crosses) depth 60 fits 100000

pub legal-requires-send-M : goal.legal-requires-send-M
legal-requires-send-M g c κs = search (design_send, sendable, crosses) depth 40 fits 20000

pub legal-requires-2-send-M : goal.legal-requires-2-send-M
legal-requires-2-send-M g c κs = search (design_send, sendable, crosses) depth 40 fits 20000

pub legal-requires-sync-M : goal.legal-requires-sync-M
legal-requires-sync-M g c κs = search (design_sync, sendable, crosses) depth 40 fits 20000

pub legal-requires-2-sync-M : goal.legal-requires-2-sync-M
legal-requires-2-sync-M g c κs = search (design_sync, sendable, crosses) depth 40 fits 20000
