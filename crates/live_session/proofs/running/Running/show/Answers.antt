use Rattle.std.proofs.Common.{◌∙◌, ◌+◌, ◌≤◌, ◌<◌, List, [], false, refl, sym, ap, arith}
use Rattle.checkpoint_book.specs.Answers.{shown_to}
use Rattle.checkpoint_book.specs.Views.{shown_in}
use Rattle.checkpoint_book.proofs.Draws.{when_err}
use Rattle.command_read.specs.Asking.{Shows}
use Rattle.module_registry.specs.Entries.{Entry}
use Rattle.version_swap.specs.Behind.{design_of}
use Rattle.live_session.specs.Logs.{book_in}
use Rattle.live_session.specs.Sessions.{world_of}
use Rattle.live_session.specs.Shown.{display_lines, last_values}
use Rattle.live_session.specs.Spelled.{spelled}
use Rattle.live_session.specs.Turns.{lost_at}
use Rattle.live_session.specs.declared.reply.Reply.{Reply}
use Rattle.live_session.specs.declared.running.Running.{Running}
use Rattle.live_session.proofs.KeptRuns.{kept_on}
use Rattle.live_session.proofs.RefusedShows.{refused_stops, show_refused}
use Rattle.live_session.proofs.ShownBeside.{book_shown, show_done, show_runs, show_stands}
use Rattle.live_session.proofs.ShownTables.{opened_there}
use denote.Param.Send.{sendable}
use Rattle.std.proofs.Crossing.{crosses}
use Rattle.cycle_eval.proofs.DesignsShared.{design_send, design_sync}
use Rattle.live_session.proofs.running.Running.show.Goals as goal

pub show-shown-requires-send-M : goal.show-shown-requires-send-M
show-shown-requires-send-M c κs = search (design_send, sendable, crosses) depth 40

pub show-shown-requires-sync-M : goal.show-shown-requires-sync-M
show-shown-requires-sync-M c κs = search (design_sync, sendable, crosses) depth 40

pub legal-requires-send-M : goal.legal-requires-send-M
legal-requires-send-M c κs = search (design_send, sendable, crosses) depth 40

pub legal-requires-sync-M : goal.legal-requires-sync-M
legal-requires-sync-M c κs = search (design_sync, sendable, crosses) depth 40

pub returns-then-self-limits-clause-answers : goal.returns-then-self-limits-clause-answers
returns-then-self-limits-clause-answers c =
    let r = c.args.self.now in
    let full : c.args.limits.rooms.session < r.charge + 1 = omega (arith, c.if-self-limits.true) in
    show_refused c.args.names.now c.has_each_once.ensures c.args.limits r c.args.book.now c.args.line c.refused_line.result c.refused_line.ensures
    c.args.prefix.now full

pub returns-then-self-limits-clause-stops : goal.returns-then-self-limits-clause-stops
returns-then-self-limits-clause-stops c =
    refused_stops c.args.names.now c.args.limits (Shows c.args.line c.args.prefix.now) c.args.self.now c.args.book.now c.refused_line.result

pub show-shown-requires-clause-opened : goal.show-shown-requires-clause-opened
show-shown-requires-clause-opened c κs = opened_there c.args.self.now (book_in c.args.book.now) c.requires.stands.outline

pub display-requires-clause-named : goal.display-requires-clause-named
display-requires-clause-named c =
    let named = c.requires.kept.named in
    record { files = named.files; top = named.top; clock = named.clock; row = named.row; rows = named.rows }

pub display-requires-clause-plans : goal.display-requires-clause-plans
display-requires-clause-plans c = c.requires.kept.plans

pub display-requires-clause-runs : goal.display-requires-clause-runs
display-requires-clause-runs c =
    let r = c.args.self.now in
    let room : r.charge + 1 ≤ c.args.limits.rooms.session = omega (arith, c.if-self-limits.false) in
    show_runs c.args.names.now c.has_each_once.ensures c.args.limits r _ c.requires.kept c.args.line c.args.book.now c.show-shown.new.self
    c.legal.ensures
    c.requires.stands c.args.prefix.now (shown_to c.show-shown.result)
    (record { settings = c.show-shown.ensures.settings; events = c.show-shown.ensures.events })
    (record { run = record { version = refl; machine = refl; rows = refl }; charge = refl; world = λ es grid. refl }) room

pub display-requires-clause-shown : goal.display-requires-clause-shown
display-requires-clause-shown c =
    c.show-shown.ensures.answer
    ∙ ap shown_in (sym (book_shown c.args.book.now c.show-shown.new.self (shown_to c.show-shown.result)
    (record { settings = c.show-shown.ensures.settings; events = c.show-shown.ensures.events })))

pub returns-in_err-text-clause-stops : goal.returns-in_err-text-clause-stops
returns-in_err-text-clause-stops c =
    let r = c.args.self.now in
    let new : Running = record r { charge = r.charge + 1 } in
    let names = c.args.names.now in
    let room : r.charge + 1 ≤ c.args.limits.rooms.session = omega (arith, c.if-self-limits.false) in
    let lines = display_lines (world_of names [] [] r) c.args.prefix.now (spelled names (design_of r.version.value.machine.value r.keys))
    (shown_to c.show-shown.result) (last_values (book_in c.show-shown.new.self)) in
    let reply : Reply = record { lines = lines; refused = false; quit = false } in
    when_err c.from_residual.result (λ (entries : List Entry). lost_at reply
    (show_done names c.has_each_once.ensures c.args.limits r new c.requires.kept c.args.line c.args.book.now c.show-shown.new.self c.legal.ensures
    c.requires.stands c.args.prefix.now (shown_to c.show-shown.result)
    (record { settings = c.show-shown.ensures.settings; events = c.show-shown.ensures.events })
    (record { run = record { version = refl; machine = refl; rows = refl }; charge = refl; world = λ es grid. refl }) room reply
    (λ es grid. refl) refl entries))

pub returns-in_err-text-clause-kept : goal.returns-in_err-text-clause-kept
returns-in_err-text-clause-kept c =
    let kept = c.requires.kept in
    kept_on c.args.names.now c.args.limits c.args.self.now _ kept (record { texts = refl; machine = refl; keys = refl }) kept.named.row
    kept.named.rows
    (omega (arith, c.if-self-limits.false)) kept.stimulus

pub returns-in_err-text-clause-stands : goal.returns-in_err-text-clause-stands
returns-in_err-text-clause-stands c =
    let r = c.args.self.now in
    let room : r.charge + 1 ≤ c.args.limits.rooms.session = omega (arith, c.if-self-limits.false) in
    show_stands c.args.names.now c.has_each_once.ensures c.args.limits r _ c.requires.kept c.args.line c.args.book.now c.show-shown.new.self
    c.legal.ensures
    c.requires.stands c.args.prefix.now (shown_to c.show-shown.result)
    (record { settings = c.show-shown.ensures.settings; events = c.show-shown.ensures.events })
    (record { run = record { version = refl; machine = refl; rows = refl }; charge = refl; world = λ es grid. refl }) room

pub returns-clause-answers : goal.returns-clause-answers
returns-clause-answers c =
    let r = c.args.self.now in
    let new : Running = record r { charge = r.charge + 1 } in
    let room : r.charge + 1 ≤ c.args.limits.rooms.session = omega (arith, c.if-self-limits.false) in
    show_done c.args.names.now c.has_each_once.ensures c.args.limits r new c.requires.kept c.args.line c.args.book.now c.show-shown.new.self
    c.legal.ensures
    c.requires.stands c.args.prefix.now (shown_to c.show-shown.result)
    (record { settings = c.show-shown.ensures.settings; events = c.show-shown.ensures.events })
    (record { run = record { version = refl; machine = refl; rows = refl }; charge = refl; world = λ es grid. refl }) room c.accepted.result
    (λ entries grid. c.accepted.ensures.text ∙ c.in_ok-text.ensures entries grid) c.accepted.ensures.refusal

pub returns-clause-kept : goal.returns-clause-kept
returns-clause-kept c =
    let kept = c.requires.kept in
    kept_on c.args.names.now c.args.limits c.args.self.now _ kept (record { texts = refl; machine = refl; keys = refl }) kept.named.row
    kept.named.rows
    (omega (arith, c.if-self-limits.false)) kept.stimulus

pub returns-clause-stands : goal.returns-clause-stands
returns-clause-stands c =
    let r = c.args.self.now in
    let room : r.charge + 1 ≤ c.args.limits.rooms.session = omega (arith, c.if-self-limits.false) in
    show_stands c.args.names.now c.has_each_once.ensures c.args.limits r _ c.requires.kept c.args.line c.args.book.now c.show-shown.new.self
    c.legal.ensures
    c.requires.stands c.args.prefix.now (shown_to c.show-shown.result)
    (record { settings = c.show-shown.ensures.settings; events = c.show-shown.ensures.events })
    (record { run = record { version = refl; machine = refl; rows = refl }; charge = refl; world = λ es grid. refl }) room
