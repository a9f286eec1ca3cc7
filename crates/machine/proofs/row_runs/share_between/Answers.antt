use Rattle.std.proofs.Common.{arith, refl, ap}
use Rattle.machine.specs.declared.row_run.RowRun.{RowRun}
use Rattle.machine.proofs.Runs.{copied_none, copied_more}
use Rattle.machine.proofs.row_runs.share_between.Goals as goal

pub loop-at-init : goal.loop-at-init
loop-at-init g c =
    let h = c.run_at-index.ensures in
    copied_none c.args.a c.args.b c.args.start c.run_at-index.result c.args.runs.now _ c.requires.covers.rises h.within h.begins h.ends c.new-part.ensures.items

pub loop-at-preserved : goal.loop-at-preserved
loop-at-preserved g c =
    let is = c.index-runs-index.is in
    let end = ap (λ (x : RowRun g.row.R.Denot). x.end) is in
    copied_more c.args.a c.args.b c.args.start c.loop-at.index c.loop-at.at c.earlier-stop.result c.args.runs.now c.loop-at.part.items c.push.new.self.items
    c.index-runs-index.result _ c.requires.gapless c.requires.covers.begins c.requires.covers.ends c.loop-at-test.true c.loop-at.invariant is
    (omega (arith, c.earlier-stop.ensures.first, end)) c.earlier-stop.ensures.second c.earlier-stop.ensures.either
    refl refl c.in_ok-row.ensures c.in_ok-push.ensures.items
