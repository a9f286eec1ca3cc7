use Rattle.std.proofs.Common.{◌<◌, ℕ, List, length, inl, refl, subst, arith}
use Rattle.std.specs.List.{list_any}
use Rattle.command_read.specs.Spoken.{edited}
use Rattle.command_read.specs.declared.load_line.LoadLine.{LoadLine}
use Rattle.live_session.specs.Beside.{world_in}
use Rattle.live_session.specs.Loaded.{AreUsable, ComesTo}
use Rattle.live_session.specs.Loads.{is_broken}
use Rattle.live_session.specs.Logs.{marks_of}
use Rattle.live_session.specs.Sessions.{world}
use Rattle.command_read.specs.Asking.{Edits}
use Rattle.checkpoint_book.proofs.Draws.{when_err}
use Rattle.live_session.proofs.SessionCalls.{block_stops, loses_loads}
use Rattle.live_session.proofs.SessionSteps.{all_lost, all_steps, all_stops, failed_or, full_steps, none_lost, stops_before}
use Rattle.live_session.proofs.session.Session.edit.Goals as goal

pub returns-then-charge-self-clause-steps : goal.returns-then-charge-self-clause-steps
returns-then-charge-self-clause-steps g c =
    let s = c.args.self.now in
    full_steps (edited s.names c.args.edit.now) s c.args.book.now (g.F.Shelf.answers c.args.shelf.now) (g.F.Shelf.faults c.args.shelf.now)
    c.requires.beside c.refused_line.result
    (omega (arith, c.if-charge-self.true, c.charge.ensures (marks_of c.args.book.now))) c.refused_line.ensures

pub returns-then-charge-self-clause-stops : goal.returns-then-charge-self-clause-stops
returns-then-charge-self-clause-stops g c =
    let s = c.args.self.now in
    block_stops (edited s.names c.args.edit.now) s c.args.book.now (g.F.Shelf.answers c.args.shelf.now) (g.F.Shelf.answers c.args.shelf.now)
    (g.F.Shelf.faults c.args.shelf.now) (g.F.Shelf.faults c.args.shelf.now) c.refused_line.result

pub returns-then-charge-self-clause-lost : goal.returns-then-charge-self-clause-lost
returns-then-charge-self-clause-lost g c =
    none_lost c.args.self.now (Edits (edited c.args.self.now.names c.args.edit.now)) (g.F.Shelf.answers c.args.shelf.now) c.refused_line.result

pub returns-then-charge-self-clause-cause : goal.returns-then-charge-self-clause-cause
returns-then-charge-self-clause-cause g c = when_err c.refused_line.result (inl refl)

pub take-requires-clause-room : goal.take-requires-clause-room
take-requires-clause-room g c κs within = omega (arith, c.if-charge-self.false, c.charge.ensures (marks_of c.args.book.now))

pub take-requires-clause-usable : goal.take-requires-clause-usable
take-requires-clause-usable g c κs within =
    subst (λ (ls : List LoadLine). AreUsable (length c.args.self.now.names) ls c.in_ok-loads.loads) c.as_slice.ensures
    c.in_ok-loads.ensures.comes.usable

pub returns-in_err-loads-clause-stops : goal.returns-in_err-loads-clause-stops
returns-in_err-loads-clause-stops g c =
    let s = c.args.self.now in
    when_err _ (stops_before (edited s.names c.args.edit.now) s c.args.book.now (g.F.Shelf.answers c.args.shelf.now)
    (g.F.Shelf.answers c.loaded.new.shelf)
    (g.F.Shelf.faults c.args.shelf.now) (g.F.Shelf.faults c.loaded.new.shelf))

pub returns-in_err-loads-clause-lost : goal.returns-in_err-loads-clause-lost
returns-in_err-loads-clause-lost g c =
    let s = c.args.self.now in
    let room : (grid : List ℕ) → (world s grid).charge < s.limits.rooms.session = λ grid. omega (arith, c.if-charge-self.false, c.charge.ensures grid) in
    when_err _ (loses_loads s s.names c.args.edit.now c.as_slice.result.now (g.F.Shelf.answers c.args.shelf.now)
    (g.F.Shelf.answers c.loaded.new.shelf)
    room c.as_slice.ensures c.in_err-loads.ensures.lost)

pub returns-clause-steps : goal.returns-clause-steps
returns-clause-steps g c =
    let s = c.args.self.now in
    let comes = subst (λ (ls : List LoadLine). ComesTo s.names ls (g.F.Shelf.answers c.args.shelf.now) (g.F.Shelf.answers c.loaded.new.shelf)
    (g.F.Shelf.faults c.args.shelf.now) (g.F.Shelf.faults c.loaded.new.shelf) c.in_ok-loads.loads) c.as_slice.ensures c.in_ok-loads.ensures.comes in
    let room : (world_in s c.args.book.now).charge < s.limits.rooms.session =
    omega (arith, c.if-charge-self.false, c.charge.ensures (marks_of c.args.book.now)) in
    all_steps s.names c.args.edit.now s c.take.new.self c.args.book.now c.take.new.book (g.F.Shelf.answers c.args.shelf.now)
    (g.F.Shelf.answers c.loaded.new.shelf)
    (g.F.Shelf.faults c.args.shelf.now) (g.F.Shelf.faults c.loaded.new.shelf) c.take.ensures.limits c.take.ensures.beside room c.in_ok-loads.loads
    comes c.take.result c.take.ensures.takes

pub returns-clause-stops : goal.returns-clause-stops
returns-clause-stops g c =
    let s = c.args.self.now in
    let comes = subst (λ (ls : List LoadLine). ComesTo s.names ls (g.F.Shelf.answers c.args.shelf.now) (g.F.Shelf.answers c.loaded.new.shelf)
    (g.F.Shelf.faults c.args.shelf.now) (g.F.Shelf.faults c.loaded.new.shelf) c.in_ok-loads.loads) c.as_slice.ensures c.in_ok-loads.ensures.comes in
    let room : (world_in s c.args.book.now).charge < s.limits.rooms.session =
    omega (arith, c.if-charge-self.false, c.charge.ensures (marks_of c.args.book.now)) in
    all_stops s.names c.args.edit.now s c.take.new.self c.args.book.now c.take.new.book (g.F.Shelf.answers c.args.shelf.now)
    (g.F.Shelf.answers c.loaded.new.shelf)
    (g.F.Shelf.faults c.args.shelf.now) (g.F.Shelf.faults c.loaded.new.shelf) c.take.ensures.limits c.take.ensures.beside room c.in_ok-loads.loads
    comes c.take.result c.take.ensures.loses

pub returns-clause-lost : goal.returns-clause-lost
returns-clause-lost g c =
    let s = c.args.self.now in
    let comes = subst (λ (ls : List LoadLine). ComesTo s.names ls (g.F.Shelf.answers c.args.shelf.now) (g.F.Shelf.answers c.loaded.new.shelf)
    (g.F.Shelf.faults c.args.shelf.now) (g.F.Shelf.faults c.loaded.new.shelf) c.in_ok-loads.loads) c.as_slice.ensures c.in_ok-loads.ensures.comes in
    all_lost s.names c.args.edit.now s c.take.new.self c.args.book.now c.take.new.book (g.F.Shelf.answers c.args.shelf.now)
    (g.F.Shelf.answers c.loaded.new.shelf)
    (g.F.Shelf.faults c.args.shelf.now) (g.F.Shelf.faults c.loaded.new.shelf) c.in_ok-loads.loads c.take.result
    (λ grid. omega (arith, c.if-charge-self.false, c.charge.ensures grid)) comes

pub returns-clause-cause : goal.returns-clause-cause
returns-clause-cause g c =
    let h = c.in_ok-loads.ensures.comes in
    when_err c.take.result (failed_or (list_any is_broken h.answers) (g.F.Shelf.faults c.args.shelf.now) (g.F.Shelf.faults c.loaded.new.shelf) h.cause)
