use Rattle.std.proofs.Common.{◌≡◌, ◌++◌, ◌+◌, map, drop}
use Rattle.link.proofs.copying.add_registers.Given as goal

abbrev pub invariant-loop-signal : goal.invariant-loop-signal
invariant-loop-signal l =
    l.registers.items ++ map (λ s. l.first + s) (drop l.signal-index l.own) ≡ l.initial.registers.items ++ map (λ s. l.first + s) l.own
