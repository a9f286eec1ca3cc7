use Rattle.version_swap.proofs.UnplacedBuilt.{places_change_nothing, same_but_places}
use Rattle.version_swap.proofs.UnplacedTables.{same_table}
use Rattle.version_swap.proofs.UnplacedUnrolled.{same_module}
use Rattle.version_swap.proofs.place_laws.places_change_nothing.Goals as goal

pub returns-clause-units : goal.returns-clause-units
returns-clause-units c = places_change_nothing

pub returns-clause-faults : goal.returns-clause-faults
returns-clause-faults c = same_but_places

pub returns-clause-steps : goal.returns-clause-steps
returns-clause-steps c = same_module

pub returns-clause-tables : goal.returns-clause-tables
returns-clause-tables c = same_table
