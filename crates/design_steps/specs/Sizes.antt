-- Steps that fit the words that they take.
use Rattle.std.specs.Prelude.{Bool, true, ◌&&◌, List, [], ◌∷◌}
use Rattle.word_steps.specs.Sound.{is_sized}
use Rattle.word_steps.specs.declared.step.Step.{Step}

abbrev pub are_sized : List Step → Bool
are_sized [] = true
are_sized (s ∷ ss) = is_sized s.wide s.op s.width s.low && are_sized ss
