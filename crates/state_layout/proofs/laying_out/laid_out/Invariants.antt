use Rattle.std.proofs.Common.{◌≡◌, ◌≤◌, map, take}
use Rattle.state_layout.specs.Words.{words_of, width_in}
use Rattle.state_layout.proofs.laying_out.laid_out.Given as goal

abbrev pub invariant-loop-register : goal.invariant-loop-register
invariant-loop-register l = record { so_far : l.layout ≡ map (width_in l.signals) (take l.register-index l.registers); few : words_of l.layout ≤ 65536 }
