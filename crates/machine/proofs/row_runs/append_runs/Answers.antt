use Rattle.std.proofs.Common.{◌∙◌, refl, sym}
use Rattle.machine.proofs.Runs.{with_none, with_next}
use Rattle.machine.proofs.row_runs.append_runs.Goals as goal

pub loop-run-init : goal.loop-run-init
loop-run-init g c = with_none _ _ refl

pub loop-run-preserved : goal.loop-run-preserved
loop-run-preserved g c =
    with_next _ c.args.runs.now _ _ c.loop-run.run-index c.run-item.result c.append_run.result c.loop-run-test.true c.run-item.is (sym c.is_err.ensures.value ∙ c.if-is_err.false)
    c.loop-run.invariant c.append_run.ensures.ok
