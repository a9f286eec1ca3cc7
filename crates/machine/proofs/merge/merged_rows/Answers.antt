use Rattle.std.proofs.Common.{◌≡◌, ℕ, List, ◌+◌, length, sym, ◌∙◌, ap, subst, refl, arith}
use Rattle.std.specs.Prelude.{IfOk}
use Rattle.machine.specs.Rows.{expanded}
use Rattle.machine.proofs.Runs.{rows_of_more, rows_of_all}
use Rattle.machine.proofs.merge.merged_rows.Goals as goal

pub loop-run-preserved : goal.loop-run-preserved
loop-run-preserved g c =
    rows_of_more c.runs-runs.result.now c.loop-run.merged.items c.append_run.new.list.items c.merge_at.new.list.items c.loop-run.run-index c.run-item.result
    c.loop-run-test.true c.run-item.is c.loop-run.invariant c.in_ok-append_run.ensures.ok c.merge_at.ensures.rows c.merge_at.ensures.gapless

pub returns : goal.returns
returns g c =
    let rows = c.args.rows.now in
    let all = rows_of_all c.runs-runs.result.now c.loop-run.merged.items c.loop-run.run-index (omega (arith, c.loop-run-test.false)) c.loop-run.invariant in
    let same : expanded c.loop-run.merged.items ≡ rows.1 = (all rows.0 (rows.0 + length rows.1) c.runs-runs.ensures.gapless).1 ∙ c.runs-runs.ensures.rows in
    let whole : (c.start.result, expanded c.loop-run.merged.items) ≡ rows =
    ap (λ (s : ℕ). (s, expanded c.loop-run.merged.items)) c.start.ensures ∙ ap (λ (l : List g.row.M-Row.Denot). (rows.0, l)) same in
    subst (λ (x : ℕ × List g.row.M-Row.Denot). IfOk c.new.result (λ r. r ≡ x)) whole c.new.ensures
