use Rattle.std.proofs.Common.{refl}
use Rattle.mention_laws.proofs.laws.a_second_default_is_not_listed.Goals as goal

pub returns-clause-targets : goal.returns-clause-targets
returns-clause-targets c = refl

pub returns-clause-shown : goal.returns-clause-shown
returns-clause-shown c = refl

pub returns-clause-faults : goal.returns-clause-faults
returns-clause-faults c = refl
