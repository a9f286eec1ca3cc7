use Rattle.design_steps.proofs.Holding.{both_ok}
use Rattle.design_steps.proofs.constant_walk.pool_item.Goals as goal

pub returns : goal.returns
returns c = both_ok c.pool_value.result _ _ _ _ _ c.in_ok-pool_form.ensures c.pool_value.ensures
