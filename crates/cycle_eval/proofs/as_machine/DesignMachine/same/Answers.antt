use Rattle.cycle_eval.proofs.Laws.{same_is}
use Rattle.cycle_eval.proofs.as_machine.DesignMachine.same.Goals as goal

pub returns : goal.returns
returns c = same_is c.same.result c.args.x.now c.args.y.now c.same.ensures.same c.same.ensures.all
