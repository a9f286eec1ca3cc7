use Rattle.std.proofs.Common.{◌≡◌, false, drop}
use Rattle.ls_text.specs.Bytes.{through_pair}
use Rattle.ls_text.proofs.bytes.through_pair.Given as goal

abbrev pub invariant-loop-byte : goal.invariant-loop-byte
invariant-loop-byte l = record {
  same : through_pair l.first l.second l.seen l.n (drop l.byte-index l.text) ≡ through_pair l.first l.second false 0 l.text;
  count : l.n ≡ l.byte-index;
}
