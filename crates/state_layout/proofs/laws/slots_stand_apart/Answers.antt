use Rattle.state_layout.proofs.SlotWords.{slot_before, slot_within}
use Rattle.state_layout.proofs.laws.slots_stand_apart.Goals as goal

pub returns-clause-apart : goal.returns-clause-apart
returns-clause-apart c = slot_before

pub returns-clause-within : goal.returns-clause-within
returns-clause-within c = slot_within
