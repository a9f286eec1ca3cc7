use Rattle.gen_unroll.proofs.Numbered.{ordered, apart}
use Rattle.gen_unroll.proofs.name_laws.numbers_are_sound.Goals as goal

pub returns-clause-ordered : goal.returns-clause-ordered
returns-clause-ordered c = ordered

pub returns-clause-apart : goal.returns-clause-apart
returns-clause-apart c = apart
