use Rattle.version_swap.proofs.BlockNames.{same_names_within}
use Rattle.version_swap.proofs.InstanceModules.{all_visited}
use Rattle.version_swap.proofs.StandingUnits.{tree_units_stand}
use Rattle.version_swap.proofs.TreeJobs.{tree_has_jobs}
use Rattle.version_swap.proofs.job_laws.units_stand_in_their_tree.Goals as goal

pub returns-clause-visits : goal.returns-clause-visits
returns-clause-visits c = all_visited

pub returns-clause-jobs : goal.returns-clause-jobs
returns-clause-jobs c = tree_has_jobs

pub returns-clause-units : goal.returns-clause-units
returns-clause-units c = tree_units_stand

pub returns-clause-names : goal.returns-clause-names
returns-clause-names c = same_names_within
