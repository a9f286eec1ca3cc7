use Rattle.version_swap.proofs.ToldInstances.{instances_told}
use Rattle.version_swap.proofs.key_laws.elaborated_instances_are_told.Goals as goal

pub returns : goal.returns
returns c = instances_told
