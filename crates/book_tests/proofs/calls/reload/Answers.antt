use Rattle.std.proofs.Common.{refl}
use Rattle.book_tests.proofs.Tries.{keeps_one, keeps_none}
use Rattle.book_tests.proofs.calls.reload.Goals as goal

pub returns : goal.returns
returns g c = keeps_one c.args.book.now c.reload.new.self _ c.reload.ensures.settings c.in_ok-reload.ensures.ok refl (λ n. refl)

pub returns-in_err-reload : goal.returns-in_err-reload
returns-in_err-reload g c = keeps_none c.args.book.now c.reload.new.self c.reload.ensures.settings c.in_err-reload.ensures.err
