use Rattle.design_steps.proofs.Apart.{apart, clocking_apart, view_apart}
use Rattle.design_steps.proofs.Laid.{nodes_laid, blocks_laid}
use Rattle.design_steps.proofs.Fronts.{nodes_alike}
use Rattle.design_steps.proofs.laws.layouts_are_right.Goals as goal

pub returns-clause-apart : goal.returns-clause-apart
returns-clause-apart c = λ l design lays. apart l design lays

pub returns-clause-clocking : goal.returns-clause-clocking
returns-clause-clocking c = λ l design lays. clocking_apart l design lays

pub returns-clause-blocks : goal.returns-clause-blocks
returns-clause-blocks c = λ l design lays. blocks_laid l design lays

pub returns-clause-views : goal.returns-clause-views
returns-clause-views c = λ l design k lays. view_apart l design lays k

pub returns-clause-nodes : goal.returns-clause-nodes
returns-clause-nodes c = λ l design order lays. nodes_laid l design lays order

pub returns-clause-code : goal.returns-clause-code
returns-clause-code c = λ l design order mark lays o. nodes_alike l design lays mark order o
