use Rattle.std.proofs.Common.{refl}
use Rattle.book_tests.proofs.Tries.{keeps_one}
use Rattle.book_tests.proofs.calls.show.Goals as goal

pub returns : goal.returns
returns c = keeps_one c.args.book.now c.show.new.self _ c.show.ensures.settings c.show.ensures.events refl (λ n. refl)
