use Rattle.std.proofs.Common.{◌≡◌, drop}
use Rattle.word_steps.specs.Sound.{are_sound}
use Rattle.word_steps.proofs.soundness.are_sound.Given as goal

abbrev pub invariant-loop-step : goal.invariant-loop-step
invariant-loop-step l = are_sound l.n l.steps ≡ are_sound l.n (drop l.step-index l.steps)
