use Rattle.std.proofs.Common.{lit<, refl, sym, [], ◌∙◌, append-nil}
use Rattle.turn_settle.proofs.Visiting.{may_look, free_look, links_now, is_visit}
use Rattle.turn_settle.proofs.visits.links.Goals as goal

pub leave-requires-after_bounds : goal.leave-requires-after_bounds
leave-requires-after_bounds g c κs within = (
  lit< tt,
  (c.enter-boxed.ensures.turn, may_look _ _ _ _ c.enter-boxed.ensures.known c.deref_mut-book.ensures.value c.enter-boxed.ensures.learned),
)

pub returns-clause-free : goal.returns-clause-free
returns-clause-free g c =
    free_look _ _ _ _ c.enter-boxed.ensures.known c.deref_mut-book.ensures.value c.enter-boxed.ensures.learned _ c.leave.ensures.known c.requires.free

pub returns-clause-visit : goal.returns-clause-visit
returns-clause-visit g c =
    is_visit g.M.Machine.kit g.M.Machine.valid [] _ _ _ _ _ _ c.enter-boxed.ensures.known c.deref_mut-book.ensures.value c.enter-boxed.ensures.learned
    refl (sym (append-nil _)) c.leave.ensures.known c.requires.turn.kind c.requires.own refl c.legal.ensures

pub returns-clause-links : goal.returns-clause-links
returns-clause-links g c =
    c.links-count.ensures
    ∙ links_now g.M.Machine.kit g.M.Machine.valid _ _ _ c.deref_mut-book.ensures.value c.enter-boxed.ensures.learned c.requires.turn.kind c.requires.own c.legal.ensures
