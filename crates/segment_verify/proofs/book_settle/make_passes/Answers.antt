use Rattle.std.proofs.Common.{arith, ◌*◌}
use Rattle.segment_verify.proofs.Passing.{passed_open, passed_room, tried_more}
use Rattle.segment_verify.proofs.book_settle.make_passes.Goals as goal

pub pass-requires-clause-open : goal.pass-requires-clause-open
pass-requires-clause-open g c κs within = passed_open g.M.Machine.kit _ _ _ c.passes.invariant.0 c.requires.open

pub pass-requires-clause-room : goal.pass-requires-clause-room
pass-requires-clause-room g c κs within = passed_room g.M.Machine.kit _ _ _ c.passes.invariant.0 (2 * c.args.most) 2 c.requires.room (omega (arith, c.passes-test.true))

pub returns-in-Err-clause-err : goal.returns-in-Err-clause-err
returns-in-Err-clause-err g c =
    tried_more g.M.Machine.kit _ _ _ _ _ c.passes.invariant.0 c.passes-test.true c.pass.ensures.settings c.in-Err.ensures.err
