use Rattle.version_swap.proofs.SameSpelling.{same_declaration}
use Rattle.version_swap.proofs.key_laws.one_spelling_is_one_module.Goals as goal

pub returns : goal.returns
returns c = same_declaration
