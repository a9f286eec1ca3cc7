-- What a unit relies on of the numbers of its signals.
use Rattle.std.specs.Prelude.{◌≡◌, ⊤, ℕ, ◌<◌, ◌==◌, Bool, true, false, if◌then◌else◌, List, [], ◌∷◌, map, length}
use Rattle.typed_ir.specs.Orders.{Member, Distinct}
use Rattle.typed_ir.specs.Sized.{is_width, is_signal}
use Rattle.width_rules.specs.Scopes.{Meaning, Signal, Constant, Turn, Genvar, Unknown}
use Rattle.gen_unroll.specs.Declarations.{declared_width}
use Rattle.gen_unroll.specs.Signals.{NamedSignal}
use Rattle.gen_unroll.specs.Numbers.{SignalTable, NumberedSignal}

-- the numbers in the order of the declarations are those of all signals, each once
pub record IsOrdered (t : SignalTable) : Type 0 where
  pub there : (s : ℕ) → Member s t.declared → s < length t.signals
  pub all : (s : ℕ) → s < length t.signals → Member s t.declared
  pub once : Distinct t.declared

-- registers and inputs among so many signals: each is one of them and stands once, and none is both
pub record AreApart (registers inputs : List ℕ) (count : ℕ) : Type 0 where
  pub inputs_there : (s : ℕ) → Member s inputs → s < count
  pub registers_there : (s : ℕ) → Member s registers → s < count
  pub registers_once : Distinct registers
  pub inputs_once : Distinct inputs
  pub apart : (s : ℕ) → Member s registers → Member s inputs → ⊥

abbrev pub widths_of : List NamedSignal → List ℕ
widths_of xs = map (λ (x : NamedSignal). declared_width x.range) xs

-- whether one of these has the name
abbrev pub has_name : ℕ → List NumberedSignal → Bool
has_name name [] = false
has_name name (x ∷ xs) = if x.signal.name.name.0 == name then true else has_name name xs

-- what is a signal is one of the list, with its width of 1 to 128 bits
abbrev pub IsOneOf : List ℕ → Meaning → Type 0
IsOneOf widths (Signal signal width lsb signed writer) = (is_width width ≡ true) × (is_signal signal width widths ≡ true)
IsOneOf widths (Constant width value signed) = ⊤
IsOneOf widths (Turn width value signed) = ⊤
IsOneOf widths Genvar = ⊤
IsOneOf widths Unknown = ⊤
