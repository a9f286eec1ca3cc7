use Rattle.std.proofs.Common.{◌≡◌, ◌-◌, IsTrue, length, drop}
use Rattle.word_steps.specs.Walks.{walk, at, env_of}
use Rattle.word_steps.specs.Sound.{are_sound}
use Rattle.word_steps.proofs.walking.walk.Given as goal

abbrev pub invariant-walking : goal.invariant-walking
invariant-walking l = record {
  sound : IsTrue (are_sound (length l.words) (drop l.index l.steps));
  rest : (walk (drop l.index l.steps) (at 0 (env_of l.words))).words ≡ (walk l.steps (at 0 (env_of l.fn.words))).words;
}

abbrev pub decreases-walking : goal.decreases-walking
decreases-walking l = length l.steps - l.index
