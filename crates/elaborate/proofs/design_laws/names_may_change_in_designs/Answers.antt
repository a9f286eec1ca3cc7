use Rattle.elaborate.proofs.RenamedChecks.{same_checked}
use Rattle.elaborate.proofs.RenamedDesigns.{same_top, same_elaborated}
use Rattle.elaborate.proofs.RenamedTrees.{same_tree}
use Rattle.elaborate.proofs.RenamedVisits.{same_visited}
use Rattle.elaborate.proofs.design_laws.names_may_change_in_designs.Goals as goal

pub returns-clause-checks : goal.returns-clause-checks
returns-clause-checks c = same_checked

pub returns-clause-visits : goal.returns-clause-visits
returns-clause-visits c = same_visited

pub returns-clause-tops : goal.returns-clause-tops
returns-clause-tops c = same_top

pub returns-clause-instances : goal.returns-clause-instances
returns-clause-instances c = same_elaborated

pub returns-clause-trees : goal.returns-clause-trees
returns-clause-trees c = same_tree
