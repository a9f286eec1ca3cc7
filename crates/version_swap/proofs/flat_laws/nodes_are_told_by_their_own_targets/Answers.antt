use Rattle.version_swap.proofs.ShownDesigns.{linked_shown, linked_named}
use Rattle.version_swap.proofs.ShownNodes.{flat_shown}
use Rattle.version_swap.proofs.flat_laws.nodes_are_told_by_their_own_targets.Goals as goal

pub returns-clause-shown : goal.returns-clause-shown
returns-clause-shown c = flat_shown

pub returns-clause-linked : goal.returns-clause-linked
returns-clause-linked c = linked_shown

pub returns-clause-named : goal.returns-clause-named
returns-clause-named c = linked_named
