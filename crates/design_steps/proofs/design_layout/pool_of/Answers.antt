use Rattle.design_steps.proofs.Holding.{first_ok, then_ok}
use Rattle.design_steps.proofs.design_layout.pool_of.Goals as goal

pub returns-clause-nodes : goal.returns-clause-nodes
returns-clause-nodes c = first_ok c.pool_all.result _ _ _ _ _ c.in_ok-pool_nodes.ensures c.pool_all.ensures

pub returns-clause-blocks : goal.returns-clause-blocks
returns-clause-blocks c = then_ok c.pool_all.result _ _ _ _ _ c.in_ok-pool_nodes.ensures c.pool_all.ensures
