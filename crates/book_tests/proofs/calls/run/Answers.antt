use Rattle.std.proofs.Common.{refl}
use Rattle.book_tests.proofs.Tries.{keeps_one, keeps_none}
use Rattle.book_tests.proofs.calls.run.Goals as goal

pub returns : goal.returns
returns g c = keeps_one c.args.book.now c.run.new.self _ c.run.ensures.settings c.in_ok-run.ensures.ok refl (λ n. refl)

pub returns-in_err-run : goal.returns-in_err-run
returns-in_err-run g c = keeps_none c.args.book.now c.run.new.self c.run.ensures.settings c.in_err-run.ensures.err
