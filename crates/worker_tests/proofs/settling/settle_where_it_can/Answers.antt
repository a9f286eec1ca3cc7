use Rattle.checkpoint_book.specs.Answers.{shown_to}
use Rattle.worker_tests.proofs.Settles.{settle_open}
use Rattle.worker_tests.proofs.settling.settle_where_it_can.Goals as goal

pub returns-in-Ok-clause-open : goal.returns-in-Ok-clause-open
returns-in-Ok-clause-open g c = settle_open g.M.Machine.kit (λ s. shown_to s) _ _ _ _ c.settle.result c.settle.ensures.ok c.settle.ensures.err c.can_settle.ensures.open

pub returns-in-Err-clause-open : goal.returns-in-Err-clause-open
returns-in-Err-clause-open g c = settle_open g.M.Machine.kit (λ s. shown_to s) _ _ _ _ c.settle.result c.settle.ensures.ok c.settle.ensures.err c.can_settle.ensures.open
