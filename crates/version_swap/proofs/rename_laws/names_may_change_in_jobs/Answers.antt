use Rattle.version_swap.proofs.RenamedJobs.{same_jobs, same_texts}
use Rattle.version_swap.proofs.rename_laws.names_may_change_in_jobs.Goals as goal

pub returns-clause-jobs : goal.returns-clause-jobs
returns-clause-jobs c = same_jobs

pub returns-clause-texts : goal.returns-clause-texts
returns-clause-texts c = same_texts
