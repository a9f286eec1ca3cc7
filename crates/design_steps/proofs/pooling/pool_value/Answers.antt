use Rattle.design_steps.proofs.Holding.{holds_one}
use Rattle.design_steps.proofs.pooling.pool_value.Goals as goal

pub returns : goal.returns
returns c = holds_one c.args.value c.args.pool.now.keys c.insert.new.self.keys c.in_ok-insert.ensures.keys
