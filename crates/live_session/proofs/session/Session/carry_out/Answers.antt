use Rattle.std.proofs.Common.{◌∙◌, ℕ, List, ap, map, refl, sym, inl}
use Rattle.std.specs.Prelude.{false, true}
use Rattle.command_read.specs.Asking.{AsksStatus, Edits, Quits, Runs, Sets, Shows}
use Rattle.command_read.specs.Spoken.{edited, setting, spoken}
use Rattle.command_read.specs.declared.port_value.PortValue.{PortValue}
use Rattle.checkpoint_book.proofs.Draws.{when_err}
use Rattle.live_session.proofs.SessionCalls.{loses_as, quit_at, quits_as, status_at, steps_as, stops_as}
use Rattle.live_session.proofs.SessionSteps.{command_stops, commanded, given_short, none_lost, stops_still}
use Rattle.live_session.proofs.session.Session.carry_out.Goals as goal

pub edit-requires-clause-given : goal.edit-requires-clause-given
edit-requires-clause-given g c κs within = given_short c.args.self.now.names c.args.command c.in-Edit.edit c.in-Edit.is c.requires.formed

pub returns-in-Edit-clause-steps : goal.returns-in-Edit-clause-steps
returns-in-Edit-clause-steps g c =
    let s = c.args.self.now in
    steps_as (Edits (edited s.names c.in-Edit.edit)) (spoken s.names c.args.command) (ap (spoken s.names) c.in-Edit.is)
    (g.F.Shelf.answers c.args.shelf.now) (g.F.Shelf.answers c.edit.new.shelf) c.edit.result (g.F.Shelf.faults c.args.shelf.now)
    (g.F.Shelf.faults c.edit.new.shelf) s c.edit.new.self c.args.book.now c.edit.new.book c.edit.ensures.steps

pub returns-in-Edit-clause-stops : goal.returns-in-Edit-clause-stops
returns-in-Edit-clause-stops g c =
    let s = c.args.self.now in
    stops_as (Edits (edited s.names c.in-Edit.edit)) (spoken s.names c.args.command) (ap (spoken s.names) c.in-Edit.is)
    (g.F.Shelf.answers c.args.shelf.now) (g.F.Shelf.answers c.edit.new.shelf) c.edit.result (g.F.Shelf.faults c.args.shelf.now)
    (g.F.Shelf.faults c.edit.new.shelf) s c.edit.new.self c.args.book.now c.edit.new.book c.edit.ensures.stops

pub returns-in-Edit-clause-quits : goal.returns-in-Edit-clause-quits
returns-in-Edit-clause-quits g c =
    let s = c.args.self.now in
    quits_as (Edits (edited s.names c.in-Edit.edit)) (spoken s.names c.args.command) (ap (spoken s.names) c.in-Edit.is) false refl c.edit.result
    c.edit.ensures.goes_on

pub returns-in-Edit-clause-lost : goal.returns-in-Edit-clause-lost
returns-in-Edit-clause-lost g c =
    let s = c.args.self.now in
    loses_as (Edits (edited s.names c.in-Edit.edit)) (spoken s.names c.args.command) (ap (spoken s.names) c.in-Edit.is)
    (g.F.Shelf.answers c.args.shelf.now) (g.F.Shelf.answers c.edit.new.shelf) c.edit.result s c.edit.ensures.lost

pub returns-in-Set-clause-steps : goal.returns-in-Set-clause-steps
returns-in-Set-clause-steps g c =
    let s = c.args.self.now in
    commanded s.names c.args.command (Sets c.in-Set.line (map (setting s.names) c.as_slice.result.now)) (g.F.Shelf.answers c.args.shelf.now)
    (g.F.Shelf.faults c.args.shelf.now) s c.set.new.self
    c.args.book.now c.args.book.now c.set.result
    (ap (spoken s.names) c.in-Set.is ∙ ap (λ (vs : List PortValue). Sets c.in-Set.line (map (setting s.names) vs)) (sym c.as_slice.ensures))
    c.set.ensures.limits refl (λ st w. refl) c.set.ensures.beside c.set.ensures.answers

pub returns-in-Set-clause-stops : goal.returns-in-Set-clause-stops
returns-in-Set-clause-stops g c =
    let s = c.args.self.now in
    command_stops s.names c.args.command (Sets c.in-Set.line (map (setting s.names) c.as_slice.result.now)) (g.F.Shelf.answers c.args.shelf.now)
    (g.F.Shelf.faults c.args.shelf.now) s c.set.new.self
    c.args.book.now c.args.book.now c.set.result
    (ap (spoken s.names) c.in-Set.is ∙ ap (λ (vs : List PortValue). Sets c.in-Set.line (map (setting s.names) vs)) (sym c.as_slice.ensures))
    c.set.ensures.limits refl (λ st w. refl) c.set.ensures.beside c.set.ensures.stops

pub returns-in-Set-clause-quits : goal.returns-in-Set-clause-quits
returns-in-Set-clause-quits g c =
    let s = c.args.self.now in
    quits_as (Sets c.in-Set.line (map (setting s.names) c.as_slice.result.now)) (spoken s.names c.args.command)
    (ap (spoken s.names) c.in-Set.is ∙ ap (λ (vs : List PortValue). Sets c.in-Set.line (map (setting s.names) vs)) (sym c.as_slice.ensures)) false
    refl c.set.result c.set.ensures.goes_on

pub returns-in-Set-clause-lost : goal.returns-in-Set-clause-lost
returns-in-Set-clause-lost g c = none_lost c.args.self.now (spoken c.args.self.now.names c.args.command) (g.F.Shelf.answers c.args.shelf.now) c.set.result

pub returns-in-Set-clause-cause : goal.returns-in-Set-clause-cause
returns-in-Set-clause-cause g c = when_err c.set.result (inl refl)

pub returns-in-Run-clause-steps : goal.returns-in-Run-clause-steps
returns-in-Run-clause-steps g c =
    let s = c.args.self.now in
    commanded s.names c.args.command (Runs c.in-Run.line c.in-Run.n) (g.F.Shelf.answers c.args.shelf.now) (g.F.Shelf.faults c.args.shelf.now) s
    c.run.new.self
    c.args.book.now c.run.new.book c.run.result (ap (spoken s.names) c.in-Run.is)
    c.run.ensures.limits refl (λ st w. refl) c.run.ensures.beside c.run.ensures.answers

pub returns-in-Run-clause-stops : goal.returns-in-Run-clause-stops
returns-in-Run-clause-stops g c =
    let s = c.args.self.now in
    command_stops s.names c.args.command (Runs c.in-Run.line c.in-Run.n) (g.F.Shelf.answers c.args.shelf.now) (g.F.Shelf.faults c.args.shelf.now) s
    c.run.new.self
    c.args.book.now c.run.new.book c.run.result (ap (spoken s.names) c.in-Run.is)
    c.run.ensures.limits refl (λ st w. refl) c.run.ensures.beside c.run.ensures.stops

pub returns-in-Run-clause-quits : goal.returns-in-Run-clause-quits
returns-in-Run-clause-quits g c =
    let s = c.args.self.now in
    quits_as (Runs c.in-Run.line c.in-Run.n) (spoken s.names c.args.command) (ap (spoken s.names) c.in-Run.is) false refl c.run.result
    c.run.ensures.goes_on

pub returns-in-Run-clause-lost : goal.returns-in-Run-clause-lost
returns-in-Run-clause-lost g c = none_lost c.args.self.now (spoken c.args.self.now.names c.args.command) (g.F.Shelf.answers c.args.shelf.now) c.run.result

pub returns-in-Run-clause-cause : goal.returns-in-Run-clause-cause
returns-in-Run-clause-cause g c = when_err c.run.result (inl refl)

pub returns-in-Show-clause-steps : goal.returns-in-Show-clause-steps
returns-in-Show-clause-steps g c =
    let s = c.args.self.now in
    commanded s.names c.args.command (Shows c.in-Show.line c.bytes.result.now) (g.F.Shelf.answers c.args.shelf.now)
    (g.F.Shelf.faults c.args.shelf.now) s c.show.new.self
    c.args.book.now c.show.new.book c.show.result
    (ap (spoken s.names) c.in-Show.is ∙ ap (λ (p : List ℕ). Shows c.in-Show.line p) (sym c.bytes.ensures))
    c.show.ensures.limits refl (λ st w. refl) c.show.ensures.beside c.show.ensures.answers

pub returns-in-Show-clause-stops : goal.returns-in-Show-clause-stops
returns-in-Show-clause-stops g c =
    let s = c.args.self.now in
    command_stops s.names c.args.command (Shows c.in-Show.line c.bytes.result.now) (g.F.Shelf.answers c.args.shelf.now)
    (g.F.Shelf.faults c.args.shelf.now) s c.show.new.self
    c.args.book.now c.show.new.book c.show.result
    (ap (spoken s.names) c.in-Show.is ∙ ap (λ (p : List ℕ). Shows c.in-Show.line p) (sym c.bytes.ensures))
    c.show.ensures.limits refl (λ st w. refl) c.show.ensures.beside c.show.ensures.stops

pub returns-in-Show-clause-quits : goal.returns-in-Show-clause-quits
returns-in-Show-clause-quits g c =
    let s = c.args.self.now in
    quits_as (Shows c.in-Show.line c.bytes.result.now) (spoken s.names c.args.command)
    (ap (spoken s.names) c.in-Show.is ∙ ap (λ (p : List ℕ). Shows c.in-Show.line p) (sym c.bytes.ensures)) false refl c.show.result
    c.show.ensures.goes_on

pub returns-in-Show-clause-lost : goal.returns-in-Show-clause-lost
returns-in-Show-clause-lost g c = none_lost c.args.self.now (spoken c.args.self.now.names c.args.command) (g.F.Shelf.answers c.args.shelf.now) c.show.result

pub returns-in-Show-clause-cause : goal.returns-in-Show-clause-cause
returns-in-Show-clause-cause g c = when_err c.show.result (inl refl)

pub returns-in-Status-clause-steps : goal.returns-in-Status-clause-steps
returns-in-Status-clause-steps g c =
    let s = c.args.self.now in
    let j = c.args.book.now in
    commanded s.names c.args.command (AsksStatus c.in-Status.line) (g.F.Shelf.answers c.args.shelf.now) (g.F.Shelf.faults c.args.shelf.now) s s j j
    c.status.result
    (ap (spoken s.names) c.in-Status.is) refl refl (λ st w. refl) c.requires.beside
    (status_at c.in-Status.line s j c.status.result c.status.ensures.answers)

pub returns-in-Status-clause-stops : goal.returns-in-Status-clause-stops
returns-in-Status-clause-stops g c =
    let s = c.args.self.now in
    let j = c.args.book.now in
    command_stops s.names c.args.command (AsksStatus c.in-Status.line) (g.F.Shelf.answers c.args.shelf.now) (g.F.Shelf.faults c.args.shelf.now) s s j
    j c.status.result
    (ap (spoken s.names) c.in-Status.is) refl refl (λ st w. refl) c.requires.beside (stops_still (AsksStatus c.in-Status.line) s j c.status.result)

pub returns-in-Status-clause-quits : goal.returns-in-Status-clause-quits
returns-in-Status-clause-quits g c =
    let s = c.args.self.now in
    quits_as (AsksStatus c.in-Status.line) (spoken s.names c.args.command) (ap (spoken s.names) c.in-Status.is) false refl c.status.result
    c.status.ensures.goes_on

pub returns-in-Status-clause-lost : goal.returns-in-Status-clause-lost
returns-in-Status-clause-lost g c = none_lost c.args.self.now (spoken c.args.self.now.names c.args.command) (g.F.Shelf.answers c.args.shelf.now) c.status.result

pub returns-in-Status-clause-cause : goal.returns-in-Status-clause-cause
returns-in-Status-clause-cause g c = when_err c.status.result (inl refl)

pub returns-clause-steps : goal.returns-clause-steps
returns-clause-steps g c =
    let s = c.args.self.now in
    let j = c.args.book.now in
    commanded s.names c.args.command (Quits c.in-Quit.line) (g.F.Shelf.answers c.args.shelf.now) (g.F.Shelf.faults c.args.shelf.now) s s j j
    c.quit.result
    (ap (spoken s.names) c.in-Quit.is) refl refl (λ st w. refl) c.requires.beside (quit_at c.in-Quit.line s j c.quit.result c.quit.ensures.answers)

pub returns-clause-stops : goal.returns-clause-stops
returns-clause-stops g c =
    let s = c.args.self.now in
    let j = c.args.book.now in
    command_stops s.names c.args.command (Quits c.in-Quit.line) (g.F.Shelf.answers c.args.shelf.now) (g.F.Shelf.faults c.args.shelf.now) s s j j
    c.quit.result
    (ap (spoken s.names) c.in-Quit.is) refl refl (λ st w. refl) c.requires.beside (stops_still (Quits c.in-Quit.line) s j c.quit.result)

pub returns-clause-quits : goal.returns-clause-quits
returns-clause-quits g c =
    let s = c.args.self.now in
    quits_as (Quits c.in-Quit.line) (spoken s.names c.args.command) (ap (spoken s.names) c.in-Quit.is) true refl c.quit.result c.quit.ensures.quits

pub returns-clause-lost : goal.returns-clause-lost
returns-clause-lost g c = none_lost c.args.self.now (spoken c.args.self.now.names c.args.command) (g.F.Shelf.answers c.args.shelf.now) c.quit.result

pub returns-clause-cause : goal.returns-clause-cause
returns-clause-cause g c = when_err c.quit.result (inl refl)
