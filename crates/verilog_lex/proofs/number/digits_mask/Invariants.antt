use Rattle.std.proofs.Common.{◌≡◌, ◌<◌, ◌%◌, ◌^◌, drop}
use Rattle.verilog_lex.specs.Numbers.{covered_from}
use Rattle.verilog_lex.proofs.number.digits_mask.Given as goal

abbrev pub invariant-loop-byte : goal.invariant-loop-byte
invariant-loop-byte l = record {
  same : covered_from l.radix l.mask (drop l.byte-index l.digits) % 2 ^ 128 ≡ covered_from l.radix l.initial.mask l.digits % 2 ^ 128;
  small : l.mask < 2 ^ 128;
}
