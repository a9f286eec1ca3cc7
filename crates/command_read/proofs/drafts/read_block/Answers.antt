use Rattle.std.proofs.Common.{◌+◌, true, length, [], sym, ap, append-nil, arith}
use Rattle.command_read.specs.Lines.{script_lines}
use Rattle.command_read.specs.Blocks.{reading_of}
use Rattle.command_read.proofs.drafts.read_block.Goals as goal

pub loop-line-init : goal.loop-line-init
loop-line-init c = record {
  same = ap (λ r. reading_of r (c.args.first + 1) (script_lines true c.args.body.now)) (c.begun-draft.ensures.reading c.args.names.now);
  within = c.begun-draft.ensures.within (length c.args.names.now);
  grows = record { more = []; begins = sym (append-nil c.args.names.now) };
  few = omega arith;
}
