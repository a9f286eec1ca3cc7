use Rattle.std.proofs.Common.{arith}
use Rattle.design_steps.proofs.Placing.{placed_below}
use Rattle.design_steps.proofs.words.greatest.Goals as goal

pub returns-clause-placed : goal.returns-clause-placed
returns-clause-placed c = λ n h.
    placed_below n c.max-4.result c.args.step.now (omega arith) (omega arith) (omega arith) (omega arith) h
