-- What the values of the signals mean.
use Rattle.std.specs.Prelude.{ℕ, List, map, slice_index}
use Rattle.bits.specs.declared.Bits.{Bits}
use Rattle.typed_ir.specs.Valuations.{Valuation}

abbrev pub widths : List Bits → List ℕ
widths env = map (λ (b : Bits). b.width) env

abbrev pub values : List Bits → List ℕ
values env = map (λ (b : Bits). b.value) env

abbrev pub env_of : List Bits → Valuation
env_of bits = λ s. slice_index (values bits) s
