use Rattle.segment_verify.proofs.Openness.{begun_open}
use Rattle.worker_tests.proofs.thread_tests.beside.Goals as goal

pub with_workers-pass-requires-clause-open : goal.with_workers-pass-requires-clause-open
with_workers-pass-requires-clause-open g c κs within = begun_open _ _ c.in_ok-turn.ensures.1 c.requires.open
