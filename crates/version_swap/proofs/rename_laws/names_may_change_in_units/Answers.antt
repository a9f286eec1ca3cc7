use Rattle.version_swap.proofs.RenamedBuilt.{same_built, same_faults, same_initials, same_items, same_job_steps, same_job, same_placed, same_settled}
use Rattle.version_swap.proofs.rename_laws.names_may_change_in_units.Goals as goal

pub returns-clause-steps : goal.returns-clause-steps
returns-clause-steps c = same_job_steps

pub returns-clause-settled : goal.returns-clause-settled
returns-clause-settled c = same_settled

pub returns-clause-faults : goal.returns-clause-faults
returns-clause-faults c = same_faults

pub returns-clause-items : goal.returns-clause-items
returns-clause-items c = same_items

pub returns-clause-initials : goal.returns-clause-initials
returns-clause-initials c = same_initials

pub returns-clause-placed : goal.returns-clause-placed
returns-clause-placed c = same_placed

pub returns-clause-modules : goal.returns-clause-modules
returns-clause-modules c = same_built

pub returns-clause-jobs : goal.returns-clause-jobs
returns-clause-jobs c = same_job
