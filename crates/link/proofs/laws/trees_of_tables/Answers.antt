use Rattle.std.proofs.Common.{sym, ◌∙◌}
use Rattle.link.proofs.Alone.{one_tree}
use Rattle.link.proofs.Forests.{tree_of}
use Rattle.link.proofs.laws.trees_of_tables.Goals as goal

pub returns-clause-some : goal.returns-clause-some
returns-clause-some c = λ xs us first long. let found = tree_of xs us first long in (found.tree, found.is)

pub returns-clause-one : goal.returns-clause-one
returns-clause-one c = λ xs us s t one other. one_tree s t (one ∙ sym other)
