use Rattle.std.proofs.Common.{◌≡◌, ◌∙◌, ◌++◌, ℕ, List, sym, ap, subst}
use Rattle.checkpoint_book.specs.Answers.{shown_to}
use Rattle.cycle_eval.specs.declared.design.Design.{Design}
use Rattle.cycle_eval.specs.Designs.{design_flat}
use Rattle.cycle_eval.specs.Kits.{Fits}
use Rattle.reg_transform.specs.States.{state_values}
use Rattle.wave_report.specs.Tables.{table_text}
use Rattle.live_session.specs.Logs.{book_in}
use Rattle.live_session.proofs.ShownTables.{display_shown, fits_there, opened_there}
use denote.Param.Send.{sendable}
use Rattle.std.proofs.Crossing.{crosses}
use Rattle.cycle_eval.proofs.DesignsShared.{design_send, design_sync}
use Rattle.live_session.proofs.running.Running.display.Goals as goal

pub legal-requires-send-M : goal.legal-requires-send-M
legal-requires-send-M c κs = search (design_send, sendable, crosses) depth 40

pub legal-requires-sync-M : goal.legal-requires-sync-M
legal-requires-sync-M c κs = search (design_sync, sendable, crosses) depth 40

pub legal_histories-requires-send-M : goal.legal_histories-requires-send-M
legal_histories-requires-send-M c κs = search (design_send, sendable, crosses) depth 40

pub legal_histories-requires-sync-M : goal.legal_histories-requires-sync-M
legal_histories-requires-sync-M c κs = search (design_sync, sendable, crosses) depth 40

pub current-state-requires-send-M : goal.current-state-requires-send-M
current-state-requires-send-M c κs = search (design_send, sendable, crosses) depth 40

pub current-state-requires-sync-M : goal.current-state-requires-sync-M
current-state-requires-sync-M c κs = search (design_sync, sendable, crosses) depth 40

pub current-state-requires-clause-opened : goal.current-state-requires-clause-opened
current-state-requires-clause-opened c κs = opened_there c.args.self.now (book_in c.args.book.now) c.requires.runs

pub table-requires : goal.table-requires
table-requires c =
    let r = c.args.self.now in
    let same : c.deref-2.result.now ≡ r.version.value.machine.value = c.deref-2.ensures ∙ ap (λ v. v.machine.value) c.deref.ensures in
    subst (λ (m : Design). Fits (design_flat m) c.current-state.result.now) (sym same)
    (fits_there r (book_in c.args.book.now) c.current-state.result.now c.requires.runs c.current-state.ensures.fits)

pub returns : goal.returns
returns c = λ entries grid.
    let r = c.args.self.now in
    let head = c.in_ok-text.text.items in
    let same : c.deref-2.result.now ≡ r.version.value.machine.value = c.deref-2.ensures ∙ ap (λ v. v.machine.value) c.deref.ensures in
    display_shown c.args.names.now c.has_each_once.ensures r c.requires.named c.requires.plans entries grid (book_in c.args.book.now)
    c.current-state.result.now (shown_to c.args.shown) c.args.prefix.now head c.in_ok-registers.registers.items c.extend_from_slice.new.self.items
    c.requires.runs
    (c.legal_histories.ensures.settled c.args.book.now.settings c.args.book.now.events c.legal.ensures) c.requires.shown c.current-state.ensures.last
    (c.in_ok-text.ensures ∙ c.shown_kind-kind.ensures c.args.names.now entries grid)
    (c.in_ok-registers.ensures
    ∙ ap (λ (m : Design). table_text c.args.names.now (design_flat m) (state_values c.current-state.result.now) c.args.prefix.now) same)
    (c.in_ok-extend_from_slice.ensures.items ∙ ap (λ (t : List ℕ). head ++ t) c.deref-3.ensures.value)
