use Rattle.std.proofs.Common.{arith, ap, ◌∙◌, min, ◌+◌, ◌*◌}
use Rattle.book_history.specs.Readers.{links_in}
use Rattle.checkpoint_book.proofs.Draws.{when_err}
use Rattle.book_turn.specs.Passes.{known}
use Rattle.turn_settle.specs.Seen.{book_seen}
use Rattle.turn_settle.proofs.Passing.{passed_start, passed_behind, passed_open, passed_room, passed_opened}
use Rattle.turn_settle.proofs.Settling.{settled_by, tried_behind}
use Rattle.turn_settle.proofs.settle.Goals as goal

pub make_passes-requires-clause-own : goal.make_passes-requires-clause-own
make_passes-requires-clause-own g c κs within = c.links.ensures.visit.own

pub make_passes-requires-clause-open : goal.make_passes-requires-clause-open
make_passes-requires-clause-open g c κs within =
    passed_open g.M.Machine.kit _ _ _ (passed_start g.M.Machine.kit g.M.Machine.valid c.outlines_of_histories.ensures.others_lead _ _ c.links.ensures.visit) c.requires.open

pub make_passes-requires-clause-room : goal.make_passes-requires-clause-room
make_passes-requires-clause-room g c κs within =
    passed_room g.M.Machine.kit _ _ _ (passed_start g.M.Machine.kit g.M.Machine.valid c.outlines_of_histories.ensures.others_lead _ _ c.links.ensures.visit)
    (2 * min c.args.passes (links_in (book_seen g.M.Machine.kit (known c.args.pass.now))) + 1) _ c.requires.room (omega (arith, c.min-most.ensures, c.links.ensures.links))

pub show-requires-clause-opened : goal.show-requires-clause-opened
show-requires-clause-opened g c κs within =
    passed_opened g.M.Machine.kit _ _ _
    (passed_behind g.M.Machine.kit g.M.Machine.valid c.outlines_of_histories.ensures.others_lead _ _ _ _ c.links.ensures.visit c.in_ok-make_passes.ensures.passed) c.requires.opened

pub show-requires-clause-room : goal.show-requires-clause-room
show-requires-clause-room g c κs within =
    passed_room g.M.Machine.kit _ _ _
    (passed_behind g.M.Machine.kit g.M.Machine.valid c.outlines_of_histories.ensures.others_lead _ _ _ _ c.links.ensures.visit c.in_ok-make_passes.ensures.passed)
    (2 * min c.args.passes (links_in (book_seen g.M.Machine.kit (known c.args.pass.now))) + 1) 1 c.requires.room
    (omega (arith, c.in_ok-make_passes.ensures.few, c.min-most.ensures, c.links.ensures.links))

pub returns-clause-own : goal.returns-clause-own
returns-clause-own g c = c.show.ensures.visit.own

pub returns-clause-ok : goal.returns-clause-ok
returns-clause-ok g c =
    settled_by g.M.Machine.kit g.M.Machine.valid _ _ _ _ _
    (passed_behind g.M.Machine.kit g.M.Machine.valid c.outlines_of_histories.ensures.others_lead _ _ _ _ c.links.ensures.visit c.in_ok-make_passes.ensures.passed) c.show.ensures.visit
    c.outlines_of_histories.ensures.others_lead c.requires.own c.make_passes.ensures.own _ c.args.passes _ c.links.ensures.links c.min-most.ensures c.in_ok-make_passes.ensures.few
    c.in_ok-make_passes.ensures.stops c.show.ensures.answer

pub returns-in_err-make_passes-clause-err : goal.returns-in_err-make_passes-clause-err
returns-in_err-make_passes-clause-err g c =
    when_err _
    (tried_behind _ _ _ _ _ (c.min-most.ensures ∙ ap (λ n. min c.args.passes n) c.links.ensures.links) c.links.ensures.visit.added c.in_err-make_passes.ensures.err)

pub returns-clause-legal : goal.returns-clause-legal
returns-clause-legal g c = c.show.ensures.visit.legal

pub returns-in_err-make_passes-clause-legal : goal.returns-in_err-make_passes-clause-legal
returns-in_err-make_passes-clause-legal g c = c.in_err-make_passes.ensures.legal
