use Rattle.version_swap.proofs.PlansAreOne.{plans_one}
use Rattle.version_swap.proofs.laws.plans_are_one.Goals as goal

pub returns : goal.returns
returns c names others files again top up clock net x y once also same tops clocks =
    plans_one names others once also files again same top up clock net tops clocks x y
