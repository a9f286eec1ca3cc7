use Rattle.version_swap.proofs.RenamedDesignCopies.{same_copies}
use Rattle.version_swap.proofs.RenamedFlat.{same_flat}
use Rattle.version_swap.proofs.name_laws.names_may_change_in_flat_designs.Goals as goal

pub returns-clause-designs : goal.returns-clause-designs
returns-clause-designs c = same_flat

pub returns-clause-copies : goal.returns-clause-copies
returns-clause-copies c = same_copies
