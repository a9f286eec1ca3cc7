use Rattle.std.proofs.Common.{◌≡◌, ◌∙◌, [], length, All, refl, sym, ap, subst, arith}
use Rattle.std.proofs.lemmas.List.Elements.{All-nil}
use Rattle.stimulus.specs.Records.{rows_of}
use Rattle.stimulus.specs.Rows.{AreAscending}
use denote.Param.Send.{sendable}
use Rattle.std.proofs.Crossing.{crosses}
use Rattle.book_history.specs.declared.version.Version.{Version}
use Rattle.cycle_eval.specs.declared.design.Design.{Design}
use Rattle.cycle_eval.proofs.DesignsShared.{design_send, design_sync}
use Rattle.live_session.proofs.Beginning.{first_room, marks_none, never_opened, opens_so, stands_first}
use Rattle.live_session.proofs.planning.begun.Goals as goal

pub open-requires-send-M : goal.open-requires-send-M
open-requires-send-M c κs = search (design_send, sendable, crosses) depth 40 fits 20000

pub open-requires-sync-M : goal.open-requires-sync-M
open-requires-sync-M c κs = search (design_sync, sendable, crosses) depth 40 fits 20000

pub legal-requires-send-M : goal.legal-requires-send-M
legal-requires-send-M c κs = search (design_send, sendable, crosses) depth 40 fits 20000

pub legal-requires-sync-M : goal.legal-requires-sync-M
legal-requires-sync-M c κs = search (design_sync, sendable, crosses) depth 40 fits 20000

pub open-requires-clause-never : goal.open-requires-clause-never
open-requires-clause-never c κs = never_opened c.args.limits c.args.book.now c.requires.stands

pub open-requires-clause-room : goal.open-requires-clause-room
open-requires-clause-room c κs = first_room c.args.limits c.args.book.now c.requires.stands c.requires.room

pub invariant_of-running : goal.invariant_of-running
invariant_of-running c =
    let none : rows_of c.new-3.result ≡ [] = c.new-3.ensures.rows in
    record {
      in_range = omega (arith, ap length none);
      some_version = omega (arith, c.in_ok-version.ensures.number);
      row_ascends = subst AreAscending (sym (c.in_ok-row.ensures.ok ∙ c.new.ensures)) (λ i j lt below. absurd (omega (arith, below)));
      rows_ascend = subst (All AreAscending) (sym none) (All-nil AreAscending);
    }

pub returns-clause-starts : goal.returns-clause-starts
returns-clause-starts c =
    let was = c.args.book.now in
    let is = c.open.new.self in
    let design = c.args.planned.design in
    let number = c.in_ok-version.ensures.number in
    let machine = c.in_ok-version.ensures.design in
    let opens = opens_so was is _ _ design (ap (λ (v : Version Design). v.number) c.in_ok-try_clone.ensures ∙ number)
    (ap (λ (v : Version Design). v.machine.value) c.in_ok-try_clone.ensures ∙ machine) c.in_ok-open.ensures.ok in
    record {
      has_texts = refl;
      has_design = machine;
      has_keys = refl;
      first = number;
      no_row = c.in_ok-row.ensures.ok ∙ c.new.ensures;
      no_rows = c.new-3.ensures.rows;
      stimulus = c.new-3.ensures.limit;
      charge = refl;
      settings = c.open.ensures.settings;
      opens = opens;
      marks = marks_none was is design c.open.ensures.settings opens c.legal.ensures;
      stands = stands_first was is design c.open.ensures.settings opens c.legal.ensures c.args.limits _ c.requires.stands number machine
          c.new-3.ensures.rows refl;
      text = c.in_ok-line.ensures;
    }
