use Rattle.block_rules.proofs.Legal.{legal_here, legal_narrow}
use Rattle.block_rules.proofs.laws.legal_blocks.Goals as goal

pub returns-clause-here : goal.returns-clause-here
returns-clause-here c = legal_here

pub returns-clause-narrow : goal.returns-clause-narrow
returns-clause-narrow c = legal_narrow
