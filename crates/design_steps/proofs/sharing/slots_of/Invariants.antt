use Rattle.design_steps.specs.Namings.{AreShared, AreMarked}
use Rattle.design_steps.proofs.sharing.slots_of.Given as goal

abbrev pub invariant-loop-k : goal.invariant-loop-k
invariant-loop-k l = record {
  marked : AreMarked l.linked.design l.slots.items l.stays.items;
  shared : AreShared l.linked.design l.slots.items;
}
