use Rattle.std.proofs.Common.{◌∙◌, ◌+◌, refl, sym, ap, subst, arith}
use denote.Param.Send.{sendable}
use Rattle.std.proofs.Crossing.{crosses}
use Rattle.book_history.specs.declared.version.Version.{Version}
use Rattle.checkpoint_book.specs.Views.{LeadTo}
use Rattle.cycle_eval.specs.declared.design.Design.{Design}
use Rattle.version_swap.specs.Operations.{ops_of}
use Rattle.live_session.specs.Logs.{Ops, book_in, valid}
use Rattle.cycle_eval.proofs.DesignsShared.{design_send, design_sync}
use Rattle.live_session.proofs.Renewing.{has_session_room, is_opened, leads_to, marks_stay, next_number, number_charged, reloads_so, stands_next}
use Rattle.live_session.proofs.planning.reloaded.Goals as goal

pub legal-requires-send-M : goal.legal-requires-send-M
legal-requires-send-M g c κs = search (design_send, sendable, crosses) depth 40 fits 20000

pub legal-requires-sync-M : goal.legal-requires-sync-M
legal-requires-sync-M g c κs = search (design_sync, sendable, crosses) depth 40 fits 20000

pub reload-requires-send-M : goal.reload-requires-send-M
reload-requires-send-M g c κs within = search (design_send, sendable, crosses) depth 40 fits 20000

pub reload-requires-sync-M : goal.reload-requires-sync-M
reload-requires-sync-M g c κs within = search (design_sync, sendable, crosses) depth 40 fits 20000

pub legal-requires-2-send-M : goal.legal-requires-2-send-M
legal-requires-2-send-M g c κs = search (design_send, sendable, crosses) depth 40 fits 20000

pub legal-requires-2-sync-M : goal.legal-requires-2-sync-M
legal-requires-2-sync-M g c κs = search (design_sync, sendable, crosses) depth 40 fits 20000

pub number_behind-number-requires : goal.number_behind-number-requires
number_behind-number-requires g c =
    omega (
      arith,
      number_charged c.args.limits c.args.running.now c.args.book.now c.requires.stands c.legal.ensures,
      ap (λ (v : Version Design). v.number) c.deref.ensures,
    )

pub reload-requires-clause-opened : goal.reload-requires-clause-opened
reload-requires-clause-opened g c κs within = is_opened c.args.limits c.args.running.now c.args.book.now c.requires.stands

pub reload-requires-clause-number : goal.reload-requires-clause-number
reload-requires-clause-number g c κs within =
    next_number c.args.limits c.args.running.now c.args.book.now c.requires.stands _
    (ap (λ (v : Version Design). v.number) c.in_ok-try_clone.ensures ∙ c.in_ok-version.ensures.number ∙ c.number_behind-number.ensures
    ∙ ap (λ (v : Version Design). v.number + 1) c.deref.ensures)

pub reload-requires-clause-valid : goal.reload-requires-clause-valid
reload-requires-clause-valid g c κs within =
    let r = c.args.running.now in
    let was = c.args.book.now in
    let machine = ap (λ (v : Version Design). v.machine.value) c.in_ok-try_clone.ensures ∙ c.in_ok-version.ensures.design in
    subst (λ (m : Design). LeadTo valid (book_in was) m c.new-ops.result) (sym machine)
    (subst (λ (ops : Ops). LeadTo valid (book_in was) c.args.design ops) (sym (c.new-ops.ensures ∙ c.in_ok-operations_of.ensures))
    (leads_to c.args.limits r was c.requires.stands c.args.design (ops_of c.args.lines.now) c.requires.valid))

pub reload-requires-clause-room : goal.reload-requires-clause-room
reload-requires-clause-room g c κs within = has_session_room c.args.limits c.args.running.now c.args.book.now c.requires.stands c.requires.room

pub returns-clause-goes_on : goal.returns-clause-goes_on
returns-clause-goes_on g c =
    let was = c.args.book.now in
    let is = c.reload.new.self in
    let number = c.in_ok-version.ensures.number ∙ c.number_behind-number.ensures ∙ ap (λ (v : Version Design). v.number + 1) c.deref.ensures in
    let machine = c.in_ok-version.ensures.design in
    let ops = ops_of c.args.lines.now in
    let reloads = reloads_so was is _ (c.args.running.now.version.value.number + 1) _ c.args.design _ ops c.in_ok-from.from
    (ap (λ (v : Version Design). v.number) c.in_ok-try_clone.ensures ∙ number)
    (ap (λ (v : Version Design). v.machine.value) c.in_ok-try_clone.ensures ∙ machine)
    (c.new-ops.ensures ∙ c.in_ok-operations_of.ensures) c.in_ok-from.ensures.ok in
    record {
      has_texts = refl;
      has_design = machine;
      has_keys = refl;
      next = number;
      row = refl;
      rows = refl;
      stimulus = refl;
      charge = refl;
      settings = c.reload.ensures.settings;
      reloads = reloads;
      marks = marks_stay was is (c.args.running.now.version.value.number + 1) c.args.design ops c.in_ok-from.from c.reload.ensures.settings reloads
          c.legal-2.ensures;
      chosen = c.in_ok-from.ensures.chosen;
    }

pub returns-clause-stands : goal.returns-clause-stands
returns-clause-stands g c =
    let was = c.args.book.now in
    let is = c.reload.new.self in
    let number = c.in_ok-version.ensures.number ∙ c.number_behind-number.ensures ∙ ap (λ (v : Version Design). v.number + 1) c.deref.ensures in
    let machine = c.in_ok-version.ensures.design in
    let ops = ops_of c.args.lines.now in
    let reloads = reloads_so was is _ (c.args.running.now.version.value.number + 1) _ c.args.design _ ops c.in_ok-from.from
    (ap (λ (v : Version Design). v.number) c.in_ok-try_clone.ensures ∙ number)
    (ap (λ (v : Version Design). v.machine.value) c.in_ok-try_clone.ensures ∙ machine)
    (c.new-ops.ensures ∙ c.in_ok-operations_of.ensures) c.in_ok-from.ensures.ok in
    stands_next was is (c.args.running.now.version.value.number + 1) c.args.design ops c.in_ok-from.from c.reload.ensures.settings reloads
    c.legal-2.ensures c.args.limits c.args.running.now _ c.requires.stands number machine refl refl
