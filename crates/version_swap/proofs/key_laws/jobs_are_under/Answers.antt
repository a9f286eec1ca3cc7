use Rattle.version_swap.proofs.TreeJobsUnder.{jobs_under}
use Rattle.version_swap.proofs.key_laws.jobs_are_under.Goals as goal

pub returns : goal.returns
returns c = jobs_under
