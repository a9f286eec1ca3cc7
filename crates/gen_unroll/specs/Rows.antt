-- Lists of the signals of blocks, by the number of the block.
use Rattle.std.specs.Prelude.{ℕ, zero, suc, List, [], ◌∷◌, map}
use Rattle.std.specs.Global.{Global}
use Rattle.std.specs.declared.vec.Vec.{Vec}
use Rattle.gen_unroll.specs.declared.block_signal.BlockSignal.{BlockSignal}
use Rattle.gen_unroll.specs.Numbers.{NumberedSignal}
use Rattle.gen_unroll.specs.SignalViews.{numbered_of}

abbrev pub row_in : List (Vec BlockSignal Global) → ℕ → List NumberedSignal
row_in [] k = []
row_in (r ∷ rs) zero = map numbered_of r.items
row_in (r ∷ rs) (suc k) = row_in rs k
