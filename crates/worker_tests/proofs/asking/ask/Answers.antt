use Rattle.std.proofs.Common.{lit<}
use Rattle.book_turn.specs.Passes.{known}
use Rattle.book_turn.proofs.Turns.{goes_more}
use Rattle.worker_tests.proofs.Spoken.{spoken_leaves, spoken_free, spoken_still_open}
use Rattle.worker_tests.proofs.asking.ask.Goals as goal

pub leave-requires-after_bounds : goal.leave-requires-after_bounds
leave-requires-after_bounds g c κs within = (
  lit< tt,
  (
    c.enter-boxed.ensures.turn,
    spoken_leaves _ (known c.enter-boxed.new.pass) _ _ _ c.enter-boxed.ensures.known c.deref_mut-book.ensures.value c.is_settled-answer.ensures c.enter-boxed.ensures.learned c.requires.turn.kind,
  ),
)

pub returns-clause-free : goal.returns-clause-free
returns-clause-free g c = spoken_free _ (known c.enter-boxed.new.pass) _ _ _ c.enter-boxed.ensures.known c.deref_mut-book.ensures.value c.is_settled-answer.ensures (known c.leave.new.pass) c.leave.ensures.known c.requires.free

pub returns-clause-open : goal.returns-clause-open
returns-clause-open g c = spoken_still_open (known c.args.pass.now) (known c.enter-boxed.new.pass) _ _ _ c.enter-boxed.ensures.known c.deref_mut-book.ensures.value c.is_settled-answer.ensures (known c.leave.new.pass) c.leave.ensures.known c.requires.open

pub returns-clause-goes : goal.returns-clause-goes
returns-clause-goes g c = goes_more _ _ _ c.enter-boxed.ensures.goes c.leave.ensures.goes
