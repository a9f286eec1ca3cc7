use Rattle.std.proofs.Common.{◌≡◌, ◌∷◌, List, Vec, Global, map, ap, ◌∙◌, rules}
use Rattle.std.proofs.lemmas.List.{map_push}
use Rattle.typed_ir.specs.declared.child_shape.ChildShape.{ChildShape}
use Rattle.unit_jobs.specs.Rows.{row_of}
use Rattle.unit_jobs.specs.TableViews.{modules_of}
use Rattle.unit_jobs.specs.UnnamedViews.{unnamed_view}
use Rattle.unit_jobs.proofs.InRows.{job_more}
use Rattle.unit_jobs.proofs.preparing.all_prepared.Goals as goal

pub loop-within-preserved : goal.loop-within-preserved
loop-within-preserved c =
    let next : c.loop-within.rest.now ≡ c.in-Some-split_first.one.now ∷ c.in-Some-split_first.behind.now = search rules in
    job_more c.args.names.now (modules_of c.args.table.now) (map unnamed_view c.loop-within.jobs.items) (map unnamed_view c.push.new.self.items)
    (unnamed_view c.in_ok-job.job) c.in-Some.within.items _ _ c.in-Some-split_first.one.now c.loop-within.rest.now c.in-Some-split_first.behind.now _
    c.in_ok-job.ensures (ap (map unnamed_view) c.in_ok-push.ensures.items ∙ map_push unnamed_view c.loop-within.jobs.items c.in_ok-job.job)
    (ap (λ (rs : List (Vec ChildShape Global)). map row_of rs) c.in-Some.ensures.steps.0) next c.loop-within.invariant
