use Rattle.std.proofs.Common.{◌≡◌, false, drop}
use Rattle.verilog_pre.specs.Bodies.{lines_len}
use Rattle.verilog_pre.proofs.body.lines_len.Given as goal

abbrev pub invariant-loop-byte : goal.invariant-loop-byte
invariant-loop-byte l = record {
  same : lines_len l.escaped l.n (drop l.byte-index l.text) ≡ lines_len false 0 l.text;
  count : l.n ≡ l.byte-index;
}
