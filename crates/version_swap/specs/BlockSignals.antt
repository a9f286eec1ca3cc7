-- The signals that are declared within generate blocks, and what signals are called (IEEE Std 1364-2005, 12.4 and 12.5).
use Rattle.std.specs.Prelude.{ℕ, Bool, not, List}
use Rattle.gen_unroll.specs.Spoken.{spoken}
use Rattle.gen_unroll.specs.Steps.{GenerateBlock}
use Rattle.gen_unroll.specs.Signals.{NamedSignal, is_outermost}

-- a signal that a block declares, and not the module itself
abbrev pub is_within_block : NamedSignal → Bool
is_within_block x = not (is_outermost x.block)

-- what a signal is called in its module
abbrev pub called : (texts : List (List ℕ)) → List GenerateBlock → NamedSignal → List ℕ
called texts blocks x = spoken texts blocks x.block x.name.name.0
