use Rattle.std.proofs.Common.{◌≡◌, drop}
use Rattle.verilog_pre.specs.Bodies.{comment_len}
use Rattle.verilog_pre.proofs.body.comment_len.Given as goal

abbrev pub invariant-loop-byte : goal.invariant-loop-byte
invariant-loop-byte l = record {
  same : comment_len l.last l.n (drop l.byte-index l.text) ≡ comment_len 0 0 l.text;
  count : l.n ≡ l.byte-index;
}
