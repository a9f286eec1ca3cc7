-- What a table of declarations of the code means.
use Rattle.std.specs.Prelude.{◌≡◌, ℕ, List, map}
use Rattle.gen_unroll.specs.declared.table.Table.{Table}
use Rattle.gen_unroll.specs.Signals.{NamedSignal, is_port_named}
use Rattle.gen_unroll.specs.Numbers.{place_where}
use Rattle.gen_unroll.specs.PlaceViews.{place_in}
use Rattle.gen_unroll.specs.SignalViews.{signal_of}

abbrev pub signals_of : Table → List NamedSignal
signals_of t = map signal_of t.signals.items

-- the ports of the module itself are found by their names
pub record IsPlaced (t : Table) : Type 0 where
  pub found : (q : ℕ) → place_in t.ports q ≡ place_where (is_port_named q) (signals_of t)
