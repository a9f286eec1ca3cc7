use Rattle.std.proofs.Common.{[], ◌∷◌, Ok, Err, refl}
use Rattle.book_turn.specs.Passes.{known}
use Rattle.book_turn.proofs.Turns.{goes_none}
use Rattle.ls_text.specs.Readings.{fault_view}
use Rattle.command_read.specs.Spoken.{spoken}
use Rattle.live_session.specs.AtTurn.{log_of}
use Rattle.live_session.specs.Sessions.{names_of}
use Rattle.livesim.specs.Turns.{Reads}
use Rattle.command_read.proofs.HandedOut.{formed_first}
use Rattle.livesim.proofs.OneTurn.{command_turn, refused_turn, stopped_turn}
use Rattle.livesim.proofs.Working.{stands_as}
use Rattle.livesim.proofs.turning.turn.Goals as goal

pub step-requires-clause-formed : goal.step-requires-clause-formed
step-requires-clause-formed g c κs within =
    let gone = c.in-Command.ensures.goes c.requires.going in
    formed_first c.args.reader.now c.read.new.reader gone.1 _ gone.3

pub step-requires-clause-at : goal.step-requires-clause-at
step-requires-clause-at g c κs within =
    stands_as c.args.session.now c.read.new.self (known c.args.pass.now) c.requires.at (c.in-Command.ensures.beside (log_of (known c.args.pass.now)) c.requires.at.stands)

pub returns-in-Command-clause-turned : goal.returns-in-Command-clause-turned
returns-in-Command-clause-turned g c =
    let gone = c.in-Command.ensures.goes c.requires.going in
    let reads : Reads _ _ c.args.reader.now c.read.new.reader (Ok (spoken (names_of c.read.new.self) c.in-Command.command) ∷ [])
    = record { came = gone.0; kept = gone.1; takes = gone.2; hands = gone.3; soon = gone.4 } in
    command_turn _ _ _ _ c.args.reader.now c.read.new.reader c.args.session.now c.read.new.self c.step.new.self (log_of (known c.args.pass.now))
    (log_of (known c.step.new.pass)) _ _ c.step.result _ c.answered.ensures reads
    c.in-Command.ensures.stop (c.in-Command.ensures.still refl) c.in-Command.ensures.kept c.in-Command.ensures.limits c.step.ensures.steps
    c.step.ensures.quits c.step.ensures.stops c.step.ensures.lost c.step.ensures.cause

pub returns-in-Refused-clause-turned : goal.returns-in-Refused-clause-turned
returns-in-Refused-clause-turned g c =
    let gone = c.in-Refused.ensures.goes c.requires.going in
    let reads : Reads _ _ c.args.reader.now c.read.new.reader (Err (fault_view (names_of c.read.new.self) c.in-Refused.fault) ∷ [])
    = record { came = gone.0; kept = gone.1; takes = gone.2; hands = gone.3; soon = gone.4 } in
    refused_turn _ _ _ c.args.reader.now c.read.new.reader c.args.session.now c.read.new.self (log_of (known c.args.pass.now)) _ c.refusal.result _
    c.answered-in-Refused.ensures reads
    c.in-Refused.ensures.stop (c.in-Refused.ensures.still refl) c.in-Refused.ensures.kept c.in-Refused.ensures.limits
    (c.in-Refused.ensures.beside (log_of (known c.args.pass.now)) c.requires.at.stands) c.refusal.ensures.steps c.refusal.ensures.quits

pub returns-in-NoMemory-clause-turned : goal.returns-in-NoMemory-clause-turned
returns-in-NoMemory-clause-turned g c =
    let gone = c.in-NoMemory.ensures.goes c.requires.going in
    stopped_turn _ _ _ c.args.reader.now c.read.new.reader c.args.session.now c.read.new.self (log_of (known c.args.pass.now))
    (record { came = gone.0; kept = gone.1; takes = gone.2; hands = gone.3; soon = gone.4 }) c.in-NoMemory.ensures.stop

pub returns-in-Refused-clause-at : goal.returns-in-Refused-clause-at
returns-in-Refused-clause-at g c =
    stands_as c.args.session.now c.read.new.self (known c.args.pass.now) c.requires.at (c.in-Refused.ensures.beside (log_of (known c.args.pass.now)) c.requires.at.stands)

pub returns-in-Refused-clause-goes : goal.returns-in-Refused-clause-goes
returns-in-Refused-clause-goes g c = goes_none (known c.args.pass.now)

pub returns-in-End-clause-at : goal.returns-in-End-clause-at
returns-in-End-clause-at g c =
    stands_as c.args.session.now c.read.new.self (known c.args.pass.now) c.requires.at (c.in-End.ensures.beside (log_of (known c.args.pass.now)) c.requires.at.stands)

pub returns-in-End-clause-goes : goal.returns-in-End-clause-goes
returns-in-End-clause-goes g c = goes_none (known c.args.pass.now)

pub returns-in-Fault-clause-at : goal.returns-in-Fault-clause-at
returns-in-Fault-clause-at g c =
    stands_as c.args.session.now c.read.new.self (known c.args.pass.now) c.requires.at (c.in-Fault.ensures.beside (log_of (known c.args.pass.now)) c.requires.at.stands)

pub returns-in-Fault-clause-goes : goal.returns-in-Fault-clause-goes
returns-in-Fault-clause-goes g c = goes_none (known c.args.pass.now)

pub returns-in-TooMuch-clause-at : goal.returns-in-TooMuch-clause-at
returns-in-TooMuch-clause-at g c =
    stands_as c.args.session.now c.read.new.self (known c.args.pass.now) c.requires.at (c.in-TooMuch.ensures.beside (log_of (known c.args.pass.now)) c.requires.at.stands)

pub returns-in-TooMuch-clause-goes : goal.returns-in-TooMuch-clause-goes
returns-in-TooMuch-clause-goes g c = goes_none (known c.args.pass.now)

pub returns-in-NoMemory-clause-at : goal.returns-in-NoMemory-clause-at
returns-in-NoMemory-clause-at g c =
    stands_as c.args.session.now c.read.new.self (known c.args.pass.now) c.requires.at (c.in-NoMemory.ensures.beside (log_of (known c.args.pass.now)) c.requires.at.stands)

pub returns-in-NoMemory-clause-goes : goal.returns-in-NoMemory-clause-goes
returns-in-NoMemory-clause-goes g c = goes_none (known c.args.pass.now)
