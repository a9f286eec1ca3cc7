use Rattle.std.proofs.Common.{◌≡◌, ◌+◌, ◌≤◌, ◌⊎◌, drop}
use Rattle.verilog_pre.specs.Heads.{plain_len}
use Rattle.verilog_pre.proofs.heads.plain_len.Given as goal

abbrev pub invariant-loop-byte : goal.invariant-loop-byte
invariant-loop-byte l = record {
  same : plain_len l.last l.n (drop l.byte-index l.text) ≡ plain_len 0 1 l.text;
  count : l.n ≡ l.byte-index + 1;
  first : (l.last ≡ 0) ⊎ (2 ≤ l.n);
}
