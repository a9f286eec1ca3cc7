use Rattle.std.proofs.Common.{◌≡◌, ◌+◌, length, drop}
use Rattle.design_steps.specs.Moves.{gather}
use Rattle.design_steps.proofs.gathering.gather.Given as goal

abbrev pub invariant-loop-register : goal.invariant-loop-register
invariant-loop-register l = record {
  long : length l.table ≡ length l.initial.table;
  first : l.first ≡ l.own + l.register-index;
  second : l.second ≡ l.next + l.register-index;
  left : gather l.table l.count l.first l.second (drop l.register-index l.registers) ≡ gather l.initial.table l.count l.own l.next l.registers;
}
