use Rattle.version_swap.proofs.BuiltUnits.{built_is_flat}
use Rattle.version_swap.proofs.TableAlone.{one_of_copies}
use Rattle.version_swap.proofs.TableTrees.{table_copies}
use Rattle.version_swap.proofs.TableUnits.{linked_is_flat}
use Rattle.version_swap.proofs.flat_laws.linked_units_are_the_flat_design.Goals as goal

pub returns-clause-linked : goal.returns-clause-linked
returns-clause-linked c = linked_is_flat

pub returns-clause-some : goal.returns-clause-some
returns-clause-some c = λ xs jobs us tree long is builds. let found = table_copies xs jobs us tree long is builds in (found.copies, found.table)

pub returns-clause-one : goal.returns-clause-one
returns-clause-one c = one_of_copies

pub returns-clause-trees : goal.returns-clause-trees
returns-clause-trees c = built_is_flat
