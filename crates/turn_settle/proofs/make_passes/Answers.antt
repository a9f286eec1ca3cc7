use Rattle.std.proofs.Common.{arith, ◌*◌}
use Rattle.turn_settle.proofs.Passing.{passed_open, passed_room, tried_more}
use Rattle.turn_settle.proofs.make_passes.Goals as goal

pub make_pass-requires-clause-open : goal.make_pass-requires-clause-open
make_pass-requires-clause-open g c κs within = passed_open g.M.Machine.kit _ _ _ c.passes.invariant.3 c.requires.open

pub make_pass-requires-clause-room : goal.make_pass-requires-clause-room
make_pass-requires-clause-room g c κs within = passed_room g.M.Machine.kit _ _ _ c.passes.invariant.3 (2 * c.args.most) 2 c.requires.room (omega (arith, c.passes-test.true))

pub returns-in-Err-clause-err : goal.returns-in-Err-clause-err
returns-in-Err-clause-err g c = tried_more g.M.Machine.kit _ _ _ _ _ c.passes.invariant.3 c.passes-test.true c.in-Err.ensures.err
