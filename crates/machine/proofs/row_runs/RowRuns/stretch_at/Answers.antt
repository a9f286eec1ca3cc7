use Rattle.std.proofs.Common.{arith}
use Rattle.machine.proofs.Runs.{gapless_whole, run_ends, row_here}
use Rattle.machine.proofs.row_runs.RowRuns.stretch_at.Goals as goal

pub run_at-index-requires-clause-gapless : goal.run_at-index-requires-clause-gapless
run_at-index-requires-clause-gapless g c = gapless_whole _ _ _ _ c.deref-runs.ensures.value c.self.invariant

pub returns-clause-after : goal.returns-clause-after
returns-clause-after g c =
    let ends = run_ends _ _ _ _ _ _ _ c.deref-runs.ensures.value c.self.invariant c.self.view_is c.run_at-index.ensures.within c.index-runs-index.is in
    omega (arith, ends.0, c.run_at-index.ensures.ends)

pub returns-clause-within : goal.returns-clause-within
returns-clause-within g c = (run_ends _ _ _ _ _ _ _ c.deref-runs.ensures.value c.self.invariant c.self.view_is c.run_at-index.ensures.within c.index-runs-index.is).1

pub returns-clause-rows : goal.returns-clause-rows
returns-clause-rows g c = λ t b from before more.
    let ends = run_ends _ _ _ _ _ _ _ c.deref-runs.ensures.value c.self.invariant c.self.view_is c.run_at-index.ensures.within c.index-runs-index.is in
    row_here c.self.inside.start _ c.deref-runs.result.now c.self.inside.end c.args.self.now t c.run_at-index.result b c.index-runs-index.result c.deref.result.now
    c.deref-runs.ensures.value c.self.invariant c.self.view_is c.run_at-index.ensures.within c.index-runs-index.is (omega (arith, c.run_at-index.ensures.begins, from)) (omega (arith, before, ends.0)) more
    c.deref.ensures
