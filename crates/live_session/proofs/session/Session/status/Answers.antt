use Rattle.std.proofs.Common.{rules, ℕ, [], Ok}
use Rattle.wave_report.specs.Replies.{status_text}
use Rattle.live_session.specs.Turns.{Accepts}
use Rattle.live_session.proofs.SessionCalls.{status_fresh, status_on}
use Rattle.live_session.proofs.session.Session.status.Goals as goal

pub returns-in-Some-clause-answers : goal.returns-in-Some-clause-answers
returns-in-Some-clause-answers c =
    let s = c.args.self.now in
    status_on s c.args.book.now c.in-Some.running c.has_each_once.ensures c.in-Some.is s.kept c.requires.beside c.status.result
    c.status.ensures.answers

pub returns-in_ok-reply_line-in-None-clause-answers : goal.returns-in_ok-reply_line-in-None-clause-answers
returns-in_ok-reply_line-in-None-clause-answers c =
    let says : Accepts (status_text 0 0 0 []) c.accepted.result = search rules in
    status_fresh {E = ℕ} c.args.self.now c.args.book.now c.in-None.is (Ok c.accepted.result) says
