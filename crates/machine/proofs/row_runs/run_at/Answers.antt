use Rattle.std.proofs.Common.{◌+◌, length, arith, ap}
use Rattle.machine.specs.declared.row_run.RowRun.{RowRun}
use Rattle.machine.specs.Rows.{expanded}
use Rattle.machine.proofs.Runs.{begins_zero, begins_past, some_run, start_at}
use Rattle.machine.proofs.row_runs.run_at.Goals as goal

pub loop-low-init : goal.loop-low-init
loop-low-init g c =
    let s = c.args.start in
    let rs = c.args.runs.now in (
      some_run s rs (s + length (expanded rs)) c.args.cycle c.requires.gapless c.requires.begins c.requires.ends,
      omega arith,
      omega (arith, begins_zero s rs),
      omega (arith, begins_past s rs (s + length (expanded rs)) (length rs) c.requires.gapless (omega arith)),
    )

pub loop-low-preserved-then-runs-middle : goal.loop-low-preserved-then-runs-middle
loop-low-preserved-then-runs-middle g c =
    let s = c.args.start in
    let rs = c.args.runs.now in
    let h = c.loop-low.invariant in
    let here = start_at s rs (s + length (expanded rs)) _ c.index-runs-middle.result c.requires.gapless (omega (arith, h.0, h.1)) c.index-runs-middle.is in (
      omega (arith, h.0),
      h.1,
      omega (arith, here, ap (λ (x : RowRun g.row.R.Denot). x.start) c.index-runs-middle.is),
      h.3,
    )

pub loop-low-preserved : goal.loop-low-preserved
loop-low-preserved g c =
    let s = c.args.start in
    let rs = c.args.runs.now in
    let h = c.loop-low.invariant in
    let here = start_at s rs (s + length (expanded rs)) _ c.index-runs-middle.result c.requires.gapless (omega (arith, h.0, h.1)) c.index-runs-middle.is in (
      omega (arith, h.0),
      omega (arith, h.1),
      h.2,
      omega (arith, here, ap (λ (x : RowRun g.row.R.Denot). x.start) c.index-runs-middle.is),
    )
