use Rattle.block_rules.proofs.Whole.{blocks_whole}
use Rattle.block_rules.proofs.laws.whole_blocks.Goals as goal

pub returns : goal.returns
returns c = blocks_whole
