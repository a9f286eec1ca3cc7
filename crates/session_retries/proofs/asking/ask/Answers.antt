use Rattle.command_read.proofs.HandedOut.{formed_first}
use Rattle.live_session.proofs.StandingAtTurn.{stands_as}
use Rattle.session_retries.proofs.asking.ask.Goals as goal

pub step-requires-clause-formed : goal.step-requires-clause-formed
step-requires-clause-formed g c κs within =
    let gone = c.in-Command.ensures.goes c.in_ok-reader.ensures.stop in
    formed_first c.in_ok-reader.reader c.read.new.reader gone.1 _ gone.3

pub step-requires-clause-at : goal.step-requires-clause-at
step-requires-clause-at g c κs within = stands_as _ _ _ c.requires.at c.in-Command.ensures.beside
