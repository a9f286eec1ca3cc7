use Rattle.version_swap.proofs.HeldUnits.{one_key, unit_of_job, units_of_jobs}
use Rattle.version_swap.proofs.held_laws.held_units_are_those_of_their_jobs.Goals as goal

pub returns-clause-unit : goal.returns-clause-unit
returns-clause-unit c names es k job u once h under text found = unit_of_job names once es k job u h under text found

pub returns-clause-units : goal.returns-clause-units
returns-clause-units c names es keys units once h made jobs are = units_of_jobs names once es keys units h made jobs are

pub returns-clause-equal : goal.returns-clause-equal
returns-clause-equal c = one_key
