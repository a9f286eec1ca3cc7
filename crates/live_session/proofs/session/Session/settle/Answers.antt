use Rattle.std.proofs.Common.{min, subst, sym}
use denote.Param.Send.{sendable}
use Rattle.std.proofs.Crossing.{crosses}
use Rattle.book_history.specs.Readers.{links_in}
use Rattle.book_turn.specs.Passes.{known}
use Rattle.turn_settle.specs.Settled.{HasSettledBeside, HasTriedBeside}
use Rattle.live_session.specs.Logs.{kit}
use Rattle.cycle_eval.proofs.DesignsShared.{design_send, design_sync}
use Rattle.checkpoint_book.proofs.Draws.{when_err}
use Rattle.live_session.proofs.SettledAtTurn.{book_is, goes_by, opened_here, own_open, room_here, settled_at, tried_at}
use Rattle.live_session.proofs.session.Session.settle.Goals as goal

pub settle-requires-send-M : goal.settle-requires-send-M
settle-requires-send-M g c κs within = search (design_send, sendable, crosses) depth 40 fits 20000

pub settle-requires-sync-M : goal.settle-requires-sync-M
settle-requires-sync-M g c κs within = search (design_sync, sendable, crosses) depth 40 fits 20000

pub settle-requires-clause-opened : goal.settle-requires-clause-opened
settle-requires-clause-opened g c κs within =
    opened_here c.args.self.now (known c.args.pass.now) c.requires.at c.requires.opened

pub settle-requires-clause-open : goal.settle-requires-clause-open
settle-requires-clause-open g c κs within = own_open c.args.self.now (known c.args.pass.now) c.requires.at

pub settle-requires-clause-room : goal.settle-requires-clause-room
settle-requires-clause-room g c κs within =
    room_here c.args.self.now (known c.args.pass.now) c.requires.at c.requires.opened c.args.passes c.requires.charged

pub returns-in_err-shown-clause-tried : goal.returns-in_err-shown-clause-tried
returns-in_err-shown-clause-tried g c =
    let v = known c.args.pass.now in
    when_err c.from_residual.result
    (subst (λ b. HasTriedBeside v (known c.settle.new.pass) (min c.args.passes (links_in b))) (book_is c.args.self.now v c.requires.at)
    c.in_err-shown.ensures.err)

pub returns-in_err-shown-clause-at : goal.returns-in_err-shown-clause-at
returns-in_err-shown-clause-at g c =
    tried_at c.args.self.now (known c.args.pass.now) c.requires.at c.requires.opened c.args.passes c.requires.charged (known c.settle.new.pass)
    c.settle.ensures.free c.settle.ensures.own c.settle.ensures.legal c.in_err-shown.ensures.err

pub returns-in_err-shown-clause-goes : goal.returns-in_err-shown-clause-goes
returns-in_err-shown-clause-goes g c =
    goes_by c.in_err-shown.ensures.err.own (known c.args.pass.now) (known c.settle.new.pass) c.in_err-shown.ensures.err.added

pub returns-clause-at : goal.returns-clause-at
returns-clause-at g c =
    settled_at c.args.self.now (known c.args.pass.now) c.requires.at c.requires.opened c.args.passes c.requires.charged (known c.settle.new.pass)
    c.settle.ensures.free c.settle.ensures.own c.settle.ensures.legal _ c.in_ok-shown.ensures.ok

pub returns-clause-goes : goal.returns-clause-goes
returns-clause-goes g c =
    goes_by c.in_ok-shown.ensures.ok.own (known c.args.pass.now) (known c.settle.new.pass) c.in_ok-shown.ensures.ok.added

pub returns-clause-answer : goal.returns-clause-answer
returns-clause-answer g c =
    subst (HasSettledBeside kit (known c.args.pass.now) (known c.settle.new.pass) c.args.passes) (sym c.settle_answer.ensures)
    c.in_ok-shown.ensures.ok
