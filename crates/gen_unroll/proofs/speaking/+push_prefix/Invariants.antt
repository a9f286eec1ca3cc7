use Rattle.std.proofs.Common.{length}
use Rattle.gen_unroll.proofs.speaking.+push_prefix.Given as goal

abbrev pub decreases-push_prefix : goal.decreases-push_prefix
decreases-push_prefix l = length l.blocks.now
