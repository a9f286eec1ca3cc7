use Rattle.std.proofs.Common.{◌^◌, refl, arith, rules}
use Rattle.verilog_lex.proofs.Masks.{mask_step}
use Rattle.verilog_lex.proofs.number.digits_mask.Goals as goal

pub loop-byte-preserved : goal.loop-byte-preserved
loop-byte-preserved c = record {
  same = mask_step (2 ^ 128) c.args.radix c.loop-byte.mask _ c.mask_more-mask.result c.loop-byte.byte-index c.args.digits.now _ (omega arith) refl c.mask_more-mask.ensures c.loop-byte.invariant.same;
  small = search rules;
}
