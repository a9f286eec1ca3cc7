use Rattle.std.proofs.Common.{refl}
use Rattle.worker_tests.proofs.Spoken.{one_added, open_with}
use Rattle.worker_tests.proofs.thread_tests.watch_next.Goals as goal

pub returns : goal.returns
returns g c = open_with c.args.book.now c.reload.new.self (one_added c.args.book.now c.reload.new.self _ c.reload.ensures.settings c.in_ok-reload.ensures.ok refl) c.requires
