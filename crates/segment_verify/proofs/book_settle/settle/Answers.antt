use Rattle.std.proofs.Common.{arith, min, ◌+◌, ◌*◌}
use Rattle.checkpoint_book.specs.Views.{book_of, links_in}
use Rattle.segment_verify.proofs.Passing.{passed_room}
use Rattle.segment_verify.proofs.Settling.{settled_by}
use Rattle.segment_verify.proofs.book_settle.settle.Goals as goal

pub show-requires-clause-room : goal.show-requires-clause-room
show-requires-clause-room g c κs within =
    passed_room g.M.Machine.kit _ _ _ c.in_ok-make_passes.ensures.passed (2 * min c.args.passes (links_in (book_of g.M.Machine.kit c.args.book.now)) + 1) 1 c.requires.room
    (omega (arith, c.in_ok-make_passes.ensures.few, c.min-most.ensures, c.links.ensures))

pub returns-clause-ok : goal.returns-clause-ok
returns-clause-ok g c =
    settled_by g.M.Machine.kit g.M.Machine.valid _ _ _ c.in_ok-make_passes.ensures.passed c.legal.ensures c.show.new.self _ c.args.passes _ _ c.links.ensures c.min-most.ensures
    c.in_ok-make_passes.ensures.few c.in_ok-make_passes.ensures.stops c.show.ensures.settings c.show.ensures.events c.show.ensures.answer
