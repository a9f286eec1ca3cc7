-- What signals mean that get their numbers one by one.
use Rattle.std.specs.Prelude.{◌≡◌, ◌<◌, ◌^◌, ℕ, List, map, length, Some}
use Rattle.gen_unroll.specs.declared.numbering.Numbering.{Numbering}
use Rattle.gen_unroll.specs.Signals.{NamedSignal}
use Rattle.gen_unroll.specs.Numbers.{place_where, has_order, number_of_name, in_block}
use Rattle.gen_unroll.specs.PlaceViews.{place_in}
use Rattle.gen_unroll.specs.Rows.{row_in}
use Rattle.gen_unroll.specs.SignalViews.{signal_of}

abbrev pub numbered_in : Numbering → List NamedSignal
numbered_in n = map signal_of n.signals.items

-- names of the module itself, places in the order of declarations and the signals of blocks are found
pub record IsNumbered (n : Numbering) : Type 0 where
  pub small : length (numbered_in n) < 2 ^ 32
  pub own : (q : ℕ) → place_in n.names q ≡ number_of_name q (numbered_in n)
  pub ordered : (k : ℕ) → place_in n.orders k ≡ place_where (has_order k) (numbered_in n)
  pub within : (b : ℕ) → row_in n.blocks.items b ≡ in_block (Some b) (numbered_in n)
