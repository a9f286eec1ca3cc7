use Rattle.std.proofs.Common.{arith}
use Rattle.block_rules.proofs.Finding.{open_bits}
use Rattle.block_rules.proofs.reading.is_open.Goals as goal

pub returns : goal.returns
returns c = open_bits c.args.mask c.args.known (omega (arith, c.ranges.mask.fits))
