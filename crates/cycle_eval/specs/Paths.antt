-- What the signals of the code's type have, by their numbers.
use Rattle.std.specs.Prelude.{ℕ, List, map, slice_index}
use Rattle.typed_ir.specs.declared.signal.Signal.{Signal}

abbrev pub name_in : List Signal → ℕ → ℕ
name_in signals s = slice_index (map (λ (x : Signal). x.name.0) signals) s
