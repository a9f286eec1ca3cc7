use Rattle.design_steps.proofs.Shared.{all_own, first_marks}
use Rattle.design_steps.proofs.sharing.slots_of.Goals as goal

pub loop-k-init : goal.loop-k-init
loop-k-init c =
    let design = c.args.linked.now.design in
    record {
      marked = first_marks design c.args.own.items c.in_ok-stays.stays.items c.requires.own c.in_ok-stays.ensures.long c.in_ok-stays.ensures.held;
      shared = all_own design c.args.own.items c.requires.own;
    }
