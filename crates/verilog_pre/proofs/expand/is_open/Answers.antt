use Rattle.std.proofs.Common.{sym, arith}
use Rattle.verilog_pre.proofs.Nests.{not_open}
use Rattle.verilog_pre.proofs.expand.is_open.Goals as goal

pub returns-else-place-nest : goal.returns-else-place-nest
returns-else-place-nest c = sym (not_open c.args.places.now c.args.nest.now c.args.number c.requires.placed (λ within same. omega arith))
