-- The widths of a design's signals.
use Rattle.std.proofs.Common.{◌≡◌, ℕ, zero, suc, ◌≤◌, List, [], ◌∷◌, length, map, refl, ap, arith}
use Rattle.std.proofs.lemmas.List.{length-map}
use Rattle.std.specs.Prelude.{slice_index}
use Rattle.typed_ir.specs.declared.instance_name.InstanceName.{InstanceName}
use Rattle.typed_ir.specs.declared.signal.Signal.{Signal as Signal'}
use Rattle.typed_ir.specs.Cycles.{Signal}
use Rattle.typed_ir.specs.Flats.{signal_of, signal_widths}

-- a signal has its width in the flat design
pub widths_stay : (rows : List InstanceName) (xs : List Signal') → map (λ (x : Signal). x.width) (map (signal_of rows) xs) ≡ signal_widths xs
widths_stay rows [] = refl
widths_stay rows (x ∷ xs) = ap (λ ws. x.width ∷ ws) (widths_stay rows xs)

pub widths_long : (xs : List Signal') → length (signal_widths xs) ≡ length xs
widths_long xs = length-map xs (λ (x : Signal'). x.width)

-- no signal is wider than a word
pub at_most_a_word : (xs : List Signal') (s : ℕ) → slice_index (signal_widths xs) s ≤ 128
at_most_a_word [] s = omega arith
at_most_a_word (x ∷ xs) zero = x.at_most_128
at_most_a_word (x ∷ xs) (suc s) = at_most_a_word xs s
