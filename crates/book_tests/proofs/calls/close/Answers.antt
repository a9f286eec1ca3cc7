use Rattle.std.proofs.Common.{refl}
use Rattle.book_tests.proofs.Tries.{stay_after, closed_now}
use Rattle.book_tests.proofs.calls.close.Goals as goal

pub returns-clause-outs : goal.returns-clause-outs
returns-clause-outs c = stay_after c.args.book.now c.close.new.self _ c.close.ensures.settings c.close.ensures.events (λ n. refl)

pub returns-clause-closed : goal.returns-clause-closed
returns-clause-closed c = closed_now c.args.book.now c.close.new.self c.close.ensures.events
