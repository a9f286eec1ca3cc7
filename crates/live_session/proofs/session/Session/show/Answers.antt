use Rattle.std.proofs.Common.{refl}
use denote.Param.Send.{sendable}
use Rattle.std.proofs.Crossing.{crosses}
use Rattle.command_read.specs.Asking.{Shows}
use Rattle.cycle_eval.proofs.DesignsShared.{design_send, design_sync}
use Rattle.live_session.proofs.SessionCalls.{kept_there, none_runs, stands_there}
use Rattle.live_session.proofs.SessionSteps.{answers_on, stops_on, stops_still}
use Rattle.live_session.proofs.session.Session.show.Goals as goal

pub legal-requires-send-M : goal.legal-requires-send-M
legal-requires-send-M c κs = search (design_send, sendable, crosses) depth 40 fits 20000

pub legal-requires-sync-M : goal.legal-requires-sync-M
legal-requires-sync-M c κs = search (design_sync, sendable, crosses) depth 40 fits 20000

pub show-reply-requires-clause-kept : goal.show-reply-requires-clause-kept
show-reply-requires-clause-kept c =
    let s = c.args.self.now in
    kept_there s.names s.limits s.running c.in-Some.running c.in-Some.is s.kept

pub show-reply-requires-clause-stands : goal.show-reply-requires-clause-stands
show-reply-requires-clause-stands c =
    let s = c.args.self.now in
    stands_there s.limits s.running c.in-Some.running c.args.book.now c.in-Some.is c.requires.beside.stands

pub returns-in-Some-clause-answers : goal.returns-in-Some-clause-answers
returns-in-Some-clause-answers c =
    answers_on (Shows c.args.line c.args.prefix.now) c.args.self.now c.args.book.now c.show-reply.new.book c.in-Some.running c.show-reply.new.self
    c.in-Some.is c.show-reply.result c.show-reply.ensures.answers

pub returns-in-Some-clause-stops : goal.returns-in-Some-clause-stops
returns-in-Some-clause-stops c =
    stops_on (Shows c.args.line c.args.prefix.now) c.args.self.now c.args.book.now c.show-reply.new.book c.in-Some.running c.show-reply.new.self
    c.in-Some.is c.show-reply.result c.show-reply.ensures.stops

pub returns-in-Some-clause-beside : goal.returns-in-Some-clause-beside
returns-in-Some-clause-beside c = record { stands = c.show-reply.ensures.stands; held = c.requires.beside.held }

pub returns-in-None-clause-answers : goal.returns-in-None-clause-answers
returns-in-None-clause-answers c =
    none_runs (Shows c.args.line c.args.prefix.now) c.args.self.now c.args.book.now c.args.line c.refused_line.result c.in-None.is refl
    c.refused_line.ensures

pub returns-in-None-clause-stops : goal.returns-in-None-clause-stops
returns-in-None-clause-stops c = stops_still (Shows c.args.line c.args.prefix.now) c.args.self.now c.args.book.now c.refused_line.result

pub returns-in-None-clause-beside : goal.returns-in-None-clause-beside
returns-in-None-clause-beside c = record { stands = c.requires.beside.stands; held = c.requires.beside.held }
