use Rattle.std.proofs.Common.{lit<, refl, sym}
use Rattle.segment_verify.specs.Entries.{comes_back}
use Rattle.segment_verify.proofs.Turns.{out_now, may_use, is_free, has_handed_in}
use Rattle.segment_verify.proofs.worker.install.Goals as goal

pub install-requires-clause-out : goal.install-requires-clause-out
install-requires-clause-out g c κs within = out_now g.M.Machine.kit _ _ _ _ _ c.deref_mut-book.ensures.value c.enter-boxed.ensures.learned c.requires.ticket

pub leave-requires-after_bounds : goal.leave-requires-after_bounds
leave-requires-after_bounds g c κs within = (
  lit< tt,
  (
    c.enter-boxed.ensures.turn,
    may_use g.M.Machine.kit _ _ _ _ _ c.args.verified _ _ c.enter-boxed.ensures.known c.deref_mut-book.ensures.value c.enter-boxed.ensures.learned c.requires.ticket
        c.install.ensures.settings c.install.ensures.events (sym c.requires.turn.kind) (λ m. m),
  ),
)

pub returns-clause-free : goal.returns-clause-free
returns-clause-free g c =
    is_free g.M.Machine.kit _ _ _ _ _ c.install.new.self c.args.verified _ _ c.enter-boxed.ensures.known c.leave.ensures.known c.deref_mut-book.ensures.value c.requires.ticket c.install.ensures.events refl

pub returns-clause-entries : goal.returns-clause-entries
returns-clause-entries g c = has_handed_in _ _ _ _ _ c.install.new.self _ _ _ c.enter-boxed.ensures.known c.leave.ensures.known c.deref_mut-book.ensures.value c.install.ensures.events comes_back
