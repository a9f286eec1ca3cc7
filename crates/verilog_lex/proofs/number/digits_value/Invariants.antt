use Rattle.std.proofs.Common.{◌≡◌, ◌<◌, ◌^◌, drop}
use Rattle.verilog_lex.specs.Numbers.{value_from}
use Rattle.verilog_lex.proofs.number.digits_value.Given as goal

abbrev pub invariant-loop-byte : goal.invariant-loop-byte
invariant-loop-byte l = record {
  same : value_from l.radix l.value (drop l.byte-index l.digits) ≡ value_from l.radix 0 l.digits;
  small : l.value < 2 ^ 128;
}
