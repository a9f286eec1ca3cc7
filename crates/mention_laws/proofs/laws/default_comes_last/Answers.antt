use Rattle.std.proofs.Common.{refl}
use Rattle.mention_laws.proofs.laws.default_comes_last.Goals as goal

pub returns-clause-reads : goal.returns-clause-reads
returns-clause-reads c = refl

pub returns-clause-targets : goal.returns-clause-targets
returns-clause-targets c = refl

pub returns-clause-shown : goal.returns-clause-shown
returns-clause-shown c = refl
