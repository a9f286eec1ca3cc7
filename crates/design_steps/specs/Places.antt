-- Steps whose places lie in so many words.
use Rattle.std.specs.Prelude.{ℕ, Bool, true, ◌&&◌, List, [], ◌∷◌}
use Rattle.word_steps.specs.Sound.{is_placed}
use Rattle.word_steps.specs.declared.step.Step.{Step}

abbrev pub are_placed : ℕ → List Step → Bool
are_placed n [] = true
are_placed n (s ∷ ss) = is_placed n s && are_placed n ss
