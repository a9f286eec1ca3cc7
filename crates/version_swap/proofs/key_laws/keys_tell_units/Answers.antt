use Rattle.version_swap.proofs.KeyTexts.{key_tells}
use Rattle.version_swap.proofs.GrownJobs.{grown_under}
use Rattle.version_swap.proofs.SameUnits.{one_unit, one_answer}
use Rattle.version_swap.proofs.key_laws.keys_tell_units.Goals as goal

pub returns-clause-parts : goal.returns-clause-parts
returns-clause-parts c = key_tells

pub returns-clause-units : goal.returns-clause-units
returns-clause-units c = one_unit

pub returns-clause-faults : goal.returns-clause-faults
returns-clause-faults c = one_answer

pub returns-clause-grown : goal.returns-clause-grown
returns-clause-grown c = grown_under
