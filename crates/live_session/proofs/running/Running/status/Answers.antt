use Rattle.std.proofs.Common.{◌≡◌, ◌∙◌, ℕ, List, length, map, ap}
use denote.Param.Send.{sendable}
use Rattle.std.proofs.Crossing.{crosses}
use Rattle.book_history.specs.Readers.{marks_in}
use Rattle.stimulus.specs.Records.{rows_of}
use Rattle.wave_report.specs.Replies.{status_text}
use Rattle.wave_report.specs.declared.unit_line.UnitLine.{UnitLine}
use Rattle.live_session.specs.Logs.{book_in}
use Rattle.live_session.specs.Statuses.{key_line}
use Rattle.cycle_eval.proofs.DesignsShared.{design_send, design_sync}
use Rattle.live_session.proofs.StatusLines.{status_told}
use Rattle.live_session.proofs.running.Running.status.Goals as goal

pub marks-requires-send-M : goal.marks-requires-send-M
marks-requires-send-M c κs = search (design_send, sendable, crosses) depth 40

pub marks-requires-sync-M : goal.marks-requires-sync-M
marks-requires-sync-M c κs = search (design_sync, sendable, crosses) depth 40

pub returns-clause-answers : goal.returns-clause-answers
returns-clause-answers c = λ names limits line once kept stands.
    let r = c.args.self.now in
    let number = r.version.value.number in
    let cycles = length (rows_of r.record_) in
    let marks = marks_in (book_in c.args.book.now) in
    let units : c.new-units.result ≡ map key_line r.keys = c.new-units.ensures ∙ c.in_ok-lines.ensures ∙ ap (map key_line) c.as_slice.ensures in
    let told : c.in_ok-text.text.items ≡ status_text number cycles marks (map key_line r.keys) =
    c.in_ok-text.ensures
    ∙ ap (λ v. status_text v.number c.len.result c.marks.result c.new-units.result) c.deref.ensures
    ∙ ap (λ (n : ℕ). status_text number n c.marks.result c.new-units.result) c.len.ensures
    ∙ ap (λ (n : ℕ). status_text number cycles n c.new-units.result) c.marks.ensures.value
    ∙ ap (λ (us : List UnitLine). status_text number cycles marks us) units in
    status_told names once limits r kept c.args.book.now stands line c.accepted.result
    (record { text = c.accepted.ensures.text ∙ told; refusal = c.accepted.ensures.refusal; goes_on = c.accepted.ensures.goes_on })
