use Rattle.std.proofs.Common.{refl}
use denote.Param.Send.{sendable}
use Rattle.std.proofs.Crossing.{crosses}
use Rattle.command_read.specs.Asking.{Runs}
use Rattle.cycle_eval.proofs.DesignsShared.{design_send, design_sync}
use Rattle.live_session.proofs.SessionCalls.{counted_there, kept_there, none_runs, stands_there}
use Rattle.live_session.proofs.SessionSteps.{answers_on, stops_on, stops_still}
use Rattle.live_session.proofs.session.Session.run.Goals as goal

pub legal-requires-send-M : goal.legal-requires-send-M
legal-requires-send-M g c κs = search (design_send, sendable, crosses) depth 40 fits 20000

pub legal-requires-sync-M : goal.legal-requires-sync-M
legal-requires-sync-M g c κs = search (design_sync, sendable, crosses) depth 40 fits 20000

pub run-reply-requires-clause-kept : goal.run-reply-requires-clause-kept
run-reply-requires-clause-kept g c =
    let s = c.args.self.now in
    kept_there s.names s.limits s.running c.in-Some.running c.in-Some.is s.kept

pub run-reply-requires-clause-stands : goal.run-reply-requires-clause-stands
run-reply-requires-clause-stands g c =
    let s = c.args.self.now in
    stands_there s.limits s.running c.in-Some.running c.args.book.now c.in-Some.is c.requires.beside.stands

pub returns-in-Some-clause-answers : goal.returns-in-Some-clause-answers
returns-in-Some-clause-answers g c =
    answers_on (Runs c.args.line c.args.cycles) c.args.self.now c.args.book.now c.run-reply.new.book c.in-Some.running c.run-reply.new.self
    c.in-Some.is c.run-reply.result c.run-reply.ensures.answers

pub returns-in-Some-clause-stops : goal.returns-in-Some-clause-stops
returns-in-Some-clause-stops g c =
    stops_on (Runs c.args.line c.args.cycles) c.args.self.now c.args.book.now c.run-reply.new.book c.in-Some.running c.run-reply.new.self
    c.in-Some.is c.run-reply.result c.run-reply.ensures.stops

pub returns-in-Some-clause-beside : goal.returns-in-Some-clause-beside
returns-in-Some-clause-beside g c = record { stands = c.run-reply.ensures.stands; held = c.requires.beside.held }

pub returns-in-None-clause-answers : goal.returns-in-None-clause-answers
returns-in-None-clause-answers g c =
    none_runs (Runs c.args.line c.args.cycles) c.args.self.now c.args.book.now c.args.line c.refused_line.result c.in-None.is refl
    c.refused_line.ensures

pub returns-in-None-clause-stops : goal.returns-in-None-clause-stops
returns-in-None-clause-stops g c = stops_still (Runs c.args.line c.args.cycles) c.args.self.now c.args.book.now c.refused_line.result

pub returns-in-None-clause-beside : goal.returns-in-None-clause-beside
returns-in-None-clause-beside g c = record { stands = c.requires.beside.stands; held = c.requires.beside.held }

pub returns-in-Some-clause-counted : goal.returns-in-Some-clause-counted
returns-in-Some-clause-counted g c =
    counted_there c.args.self.now.running c.in-Some.running c.args.cycles _ _ c.in-Some.is c.run-reply.ensures.counted
