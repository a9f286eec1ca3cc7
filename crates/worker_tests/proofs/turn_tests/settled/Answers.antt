use Rattle.std.proofs.Common.{arith, ◌+◌, ◌*◌}
use Rattle.segment_verify.proofs.Openness.{begun_open}
use Rattle.worker_tests.proofs.Beginning.{begun_own, begun_room, begun_opened, finished_open}
use Rattle.worker_tests.proofs.turn_tests.settled.Goals as goal

pub settle-requires-clause-own : goal.settle-requires-clause-own
settle-requires-clause-own g c κs within = begun_own _ _ c.in_ok-turn.ensures.1

pub settle-requires-clause-opened : goal.settle-requires-clause-opened
settle-requires-clause-opened g c κs within = begun_opened g.M.Machine.kit _ _ c.in_ok-turn.ensures.1 c.requires.opened

pub settle-requires-clause-open : goal.settle-requires-clause-open
settle-requires-clause-open g c κs within = begun_open _ _ c.in_ok-turn.ensures.1 c.requires.open

pub settle-requires-clause-room : goal.settle-requires-clause-room
settle-requires-clause-room g c κs within = begun_room _ _ (2 * c.args.passes + 1) _ c.in_ok-turn.ensures.1 (omega arith) c.requires.room

pub returns : goal.returns
returns g c =
    finished_open g.M.Machine.kit _ _ _ _ _ c.in_ok-shown.ensures.ok (begun_open _ _ c.in_ok-turn.ensures.1 c.requires.open) c.settle.ensures.turn.kind c.finish-book.ensures.learned
