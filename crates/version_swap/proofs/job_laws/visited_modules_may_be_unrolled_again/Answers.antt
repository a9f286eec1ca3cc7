use Rattle.version_swap.proofs.CodeTrees.{code_stands}
use Rattle.version_swap.proofs.FoundValues.{parameters_found}
use Rattle.version_swap.proofs.Rerolled.{ports_stand_outside, same_steps_again}
use Rattle.version_swap.proofs.VisitedAgain.{visited_again}
use Rattle.version_swap.proofs.job_laws.visited_modules_may_be_unrolled_again.Goals as goal

pub returns-clause-trees : goal.returns-clause-trees
returns-clause-trees c = code_stands

pub returns-clause-ports : goal.returns-clause-ports
returns-clause-ports c = ports_stand_outside

pub returns-clause-again : goal.returns-clause-again
returns-clause-again c = same_steps_again

pub returns-clause-parameters : goal.returns-clause-parameters
returns-clause-parameters c = parameters_found

pub returns-clause-visits : goal.returns-clause-visits
returns-clause-visits c = visited_again
