use Rattle.std.proofs.Common.{ℕ, List, Ok, ap, subst, sym}
use Rattle.std.specs.Prelude.{OnErr}
use Rattle.std.specs.declared.option.Option.{Option}
use Rattle.ls_port.specs.declared.shelf_answer.ShelfAnswer.{ShelfAnswer}
use Rattle.book_turn.specs.Passes.{known}
use Rattle.command_read.specs.Asking.{Asked, Settles}
use Rattle.command_read.specs.Spoken.{spoken}
use Rattle.live_session.specs.AtTurn.{log_of}
use Rattle.live_session.specs.Steps.{Stops}
use Rattle.live_session.proofs.SessionSteps.{none_lost}
use Rattle.live_session.proofs.SettleLooks.{stop_there}
use Rattle.live_session.proofs.session.Session.step.Goals as goal

pub returns-in-Settle-clause-stops : goal.returns-in-Settle-clause-stops
returns-in-Settle-clause-stops g c =
    let s = c.args.self.now in
    let v = known c.args.pass.now in
    let before = g.F.Shelf.answers c.args.shelf.now in
    let faults = g.F.Shelf.faults c.args.shelf.now in
    subst (λ (a : Asked). OnErr c.settle_command.result (Stops v.alone (Ok a) before before faults faults s c.settle_command.new.self (log_of v)
    (log_of (known c.settle_command.new.pass)))) (sym (ap (spoken s.names) c.in-Settle.is))
    (stop_there c.settle_command.result
    (λ (answers : Option (List ShelfAnswer)) (count : ℕ). Stops v.alone (Ok (Settles c.in-Settle.line c.in-Settle.passes)) answers answers count count s
    c.settle_command.new.self (log_of v) (log_of (known c.settle_command.new.pass))) c.settle_command.ensures.stops before faults)

pub returns-in-Settle-clause-lost : goal.returns-in-Settle-clause-lost
returns-in-Settle-clause-lost g c =
    none_lost c.args.self.now (spoken c.args.self.now.names c.args.command) (g.F.Shelf.answers c.args.shelf.now) c.settle_command.result
