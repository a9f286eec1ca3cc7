use Rattle.std.proofs.Common.{◌≡◌, ◌+◌, ◌≤◌, ◌<◌, ◌^◌, length}
use Rattle.verilog_pre.specs.Heads.{stays_open}
use Rattle.verilog_pre.proofs.left_open.stays_open.Given as goal

-- what is left tells what the text tells
abbrev pub invariant-loop-rest : goal.invariant-loop-rest
invariant-loop-rest l = record {
  same : stays_open l.depth l.rest ≡ stays_open l.fn.depth l.text;
  size : length l.rest ≤ 4194304;
  room : l.depth + length l.rest < 2 ^ 63 + 4194304;
}

abbrev pub decreases-loop-rest : goal.decreases-loop-rest
decreases-loop-rest l = length l.rest
