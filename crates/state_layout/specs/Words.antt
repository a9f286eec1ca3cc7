-- The room that a state takes: each register in whole words of 64 bits of its own; at most 65,536 words.
use Rattle.std.specs.Prelude.{◌≡◌, ℕ, ◌+◌, ◌/◌, List, [], ◌∷◌, map, slice_index}
use Rattle.ls_text.specs.declared.at.At.TheVariants.{Edit}
use Rattle.ls_text.specs.declared.refusal.Refusal.{Refusal}
use Rattle.ls_text.specs.declared.refusal.Refusal.TheVariants.{Fault as Refused, NoMemory}
use Rattle.typed_ir.specs.Cycles.{Flat, width_at}
use Rattle.typed_ir.specs.Flats.{signal_widths}
use Rattle.typed_ir.specs.declared.signal.Signal.{Signal}

-- the words of registers of these widths
abbrev pub words_of : List ℕ → ℕ
words_of [] = 0
words_of (w ∷ ws) = (w + 63) / 64 + words_of ws

-- the fault TooMany, at the line of `edit`, without a name
abbrev pub IsTooMany : Refusal → Type 0
IsTooMany (Refused fault) = (fault.code ≡ 40) × (fault.at ≡ Edit) × (fault.names ≡ [])
IsTooMany NoMemory = ⊥

-- that fault, where something holds; or want of memory
abbrev pub IsTooManyWhere : Type 0 → Refusal → Type 0
IsTooManyWhere holds (Refused fault) = IsTooMany (Refused fault) × holds
IsTooManyWhere holds NoMemory = Unit {0}

-- the width that a signal of the code's type has, by its number
abbrev pub width_in : List Signal → ℕ → ℕ
width_in signals s = slice_index (signal_widths signals) s

-- the widths of a design's registers
abbrev pub register_widths : Flat → List ℕ
register_widths design = map (width_at design) design.registers
