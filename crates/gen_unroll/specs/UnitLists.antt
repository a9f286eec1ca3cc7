-- What a unit has of its signals: the signals themselves, their declarations, its registers and its data inputs.
use Rattle.std.specs.Prelude.{ℕ, suc, Bool, true, false, ◌&&◌, not, if◌then◌else◌, List, [], ◌∷◌, map, filter, slice_get, Option, Some, None}
use Rattle.ls_text.specs.declared.name_id.NameId.{NameId}
use Rattle.typed_ir.specs.Cycles.{Signal}
use Rattle.typed_ir.specs.declared.signal_declaration.SignalDeclaration.{SignalDeclaration}
use Rattle.typed_ir.specs.declared.signal_kind.SignalKind.{SignalKind}
use Rattle.typed_ir.specs.declared.signal_kind.SignalKind.TheVariants as kind
use Rattle.typed_ir.specs.Shapes.{is_clock}
use Rattle.gen_unroll.specs.Declarations.{declared_width}
use Rattle.gen_unroll.specs.Signals.{NamedSignal, is_outermost}
use Rattle.gen_unroll.specs.Numbers.{SignalTable}
use Rattle.gen_unroll.specs.UnitReaches.{lsb_of}

-- a signal that is called by this name in this module
abbrev pub signal_called : (in_module : ℕ) → ℕ → NamedSignal → Signal
signal_called m n x = record {
  in_module = m;
  path = n ∷ [];
  lsb = lsb_of x.range;
  signed = x.signed;
  width = declared_width x.range;
  initial = 0;
}

-- a signal of the module itself is called by its own name, those within blocks by these names, one after another (by their own behind the
-- last one)
abbrev pub called_by : (names : List NameId) → NamedSignal → ℕ
called_by [] x = x.name.name.0
called_by (n ∷ ns) x = if is_outermost x.block then x.name.name.0 else n.0

abbrev pub names_behind : (names : List NameId) → NamedSignal → List NameId
names_behind [] x = []
names_behind (n ∷ ns) x = if is_outermost x.block then n ∷ ns else ns

abbrev pub unit_signals : (in_module : ℕ) → (names : List NameId) → List NamedSignal → List Signal
unit_signals m names [] = []
unit_signals m names (x ∷ xs) = signal_called m (called_by names x) x ∷ unit_signals m (names_behind names x) xs

abbrev pub declaration_of_signal : NamedSignal → SignalDeclaration
declaration_of_signal x = record { kind = x.kind; order = x.order }

abbrev pub declarations_of : List NamedSignal → List SignalDeclaration
declarations_of xs = map declaration_of_signal xs

-- ---- data inputs: the inputs that aren't the clock, by their numbers

abbrev pub is_input : SignalKind → Bool
is_input kind.Input = true
is_input kind.Net = false
is_input kind.Variable = false

abbrev pub is_data_input : Option NameId → NamedSignal → Bool
is_data_input clock x = is_input x.kind && not (is_clock clock x.name.name)

-- of signals that are numbered from k on
abbrev pub data_inputs_from : ℕ → Option NameId → List NamedSignal → List ℕ
data_inputs_from k clock [] = []
data_inputs_from k clock (x ∷ xs) = if is_data_input clock x then k ∷ data_inputs_from (suc k) clock xs else data_inputs_from (suc k) clock xs

abbrev pub data_inputs : Option NameId → List NamedSignal → List ℕ
data_inputs clock xs = data_inputs_from 0 clock xs

-- ---- registers: the variables that aren't settled, in the order of their declarations

abbrev pub is_variable : SignalKind → Bool
is_variable kind.Input = false
is_variable kind.Net = false
is_variable kind.Variable = true

abbrev pub is_register_at : Bool → Option NamedSignal → Bool
is_register_at settled None = false
is_register_at settled (Some x) = is_variable x.kind && not settled

abbrev pub is_register : (settled : ℕ → Bool) → List NamedSignal → ℕ → Bool
is_register settled xs k = is_register_at (settled k) (slice_get xs k)

abbrev pub registers : (settled : ℕ → Bool) → SignalTable → List ℕ
registers settled t = filter (is_register settled t.signals) t.declared
