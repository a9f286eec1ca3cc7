use Rattle.std.proofs.Common.{◌∙◌, sym, arith}
use Rattle.checkpoint_book.proofs.Places.{place_found}
use Rattle.checkpoint_book.proofs.find.find_link.Goals as goal

pub returns-then-is_place-clause-place : goal.returns-then-is_place-clause-place
returns-then-is_place-clause-place g c = λ r.
    c.loop-i.invariant.1 r
    ∙ place_found g.M.Machine.kit c.args.machine.now c.args.ticket.now.1 r c.loop-i.i c.loop-i.a c.loop-i.start.now c.args.segs.now c.index-segs-i.result
    (omega arith) c.index-segs-i.is (sym c.is_place.ensures ∙ c.if-is_place.true)
