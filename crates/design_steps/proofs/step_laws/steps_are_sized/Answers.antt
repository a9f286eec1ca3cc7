use Rattle.design_steps.proofs.Sizing.{stmt_sized, nodes_sized}
use Rattle.design_steps.proofs.step_laws.steps_are_sized.Goals as goal

pub returns-clause-statements : goal.returns-clause-statements
returns-clause-statements c = λ l rs n mark st apart laid. stmt_sized l apart.few st mark laid.legal

pub returns-clause-nodes : goal.returns-clause-nodes
returns-clause-nodes c = λ l rs n mark nodes apart laid. nodes_sized l apart.few rs nodes mark laid
