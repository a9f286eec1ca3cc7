use Rattle.std.proofs.Common.{refl}
use Rattle.worker_tests.proofs.Spoken.{one_added, open_with}
use Rattle.worker_tests.proofs.thread_tests.run_eight.Goals as goal

pub returns : goal.returns
returns g c = open_with c.args.book.now c.run.new.self (one_added c.args.book.now c.run.new.self _ c.run.ensures.settings c.in_ok-run.ensures.ok refl) c.requires
