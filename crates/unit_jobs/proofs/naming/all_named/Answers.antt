use Rattle.ls_text.proofs.Growth.{grows_on}
use Rattle.unit_jobs.proofs.Numbers.{job_more, jobs_known}
use Rattle.unit_jobs.proofs.naming.all_named.Goals as goal

pub loop-one-preserved : goal.loop-one-preserved
loop-one-preserved c =
    let grows = c.in_ok-job.ensures.grows in
    let before = c.loop-one.invariant.named in
    let more = c.in_ok-push.ensures.items in
    record {
      left = job_more c.loop-one.names c.named.new.names c.loop-one.jobs.items c.push.new.self.items c.in_ok-job.job c.in-Some.one _ _ _
          grows before more c.in_ok-job.ensures.job c.in-Some.ensures.steps.0 c.loop-one.invariant.left;
      named = jobs_known c.loop-one.names c.named.new.names c.loop-one.jobs.items c.push.new.self.items c.in_ok-job.job grows before more
          c.in_ok-job.ensures.named;
      grows = grows_on c.args.names.now c.loop-one.names c.named.new.names c.loop-one.invariant.grows grows;
    }
