-- Nodes that only give another name to a signal, and wires that stand where that signal does.
use Rattle.std.specs.Prelude.{◌≡◌, ℕ, ◌+◌, ◌<◌, Bool, true, false, ◌&&◌, ◌==◌, nat_lt, ◌⊎◌, Option, Some, None, List, [], ◌∷◌, map, length, slice_index, get_or, if◌then◌else◌}
use Rattle.typed_ir.specs.declared.flat.Flat.{Flat}
use Rattle.typed_ir.specs.declared.lane.Lane.{Lane}
use Rattle.typed_ir.specs.Orders.{Member, at_or}
use Rattle.typed_ir.specs.Flats.{signal_widths}
use Rattle.typed_ir.specs.FlatNodes.{node_of}
use Rattle.typed_ir.specs.Nodes.{FlatNode, Drive}
use Rattle.typed_ir.specs.Sized.{Sized, Name}
use Rattle.design_steps.specs.declared.naming.Naming.{Naming}

abbrev pub has_width : ℕ → ℕ → List ℕ → Bool
has_width signal width ws = nat_lt signal (length ws) && ((slice_index ws signal == width) && nat_lt 0 width)

-- so many bits of a value, all of them, to a whole signal
abbrev pub is_whole : Lane → ℕ → List ℕ → Bool
is_whole lane width ws = (lane.shift == 0) && ((lane.span.low == 0) && ((lane.span.width == width) && has_width lane.span.signal width ws))

abbrev pub named : Lane → Sized → List ℕ → Option Naming
named lane (Name signal width) ws =
    if is_whole lane width ws && has_width signal width ws then Some (record { wire = lane.span.signal; signal = signal }) else None
named lane e ws = None

-- the wire that a node drives as a whole with a signal of its width
abbrev pub name_given : FlatNode → List ℕ → Option Naming
name_given (Drive form (lane ∷ []) e) ws = named lane e ws
name_given k ws = None

abbrev pub stand_alike : List ℕ → Option Naming → Bool
stand_alike slots None = false
stand_alike slots (Some n) = (nat_lt n.wire (length slots) && nat_lt n.signal (length slots)) && (slice_index slots n.wire == slice_index slots n.signal)

-- a node that leaves nothing to do, since the wire stands where the signal does
abbrev pub is_shared : List ℕ → List ℕ → FlatNode → Bool
is_shared ws slots k = stand_alike slots (name_given k ws)

-- the numbers of an order, but for those of nodes that leave nothing to do
abbrev pub kept : List ℕ → List ℕ → List FlatNode → List ℕ → List ℕ
kept ws slots nodes [] = []
kept ws slots nodes (k ∷ ks) = if at_or (is_shared ws slots) true nodes k then kept ws slots nodes ks else k ∷ kept ws slots nodes ks

abbrev pub mark_at : List Bool → ℕ → Bool
mark_at marks s = get_or marks s false

abbrev pub Held : Flat → ℕ → Type 0
Held design s = Member s design.registers.items ⊎ Member s design.inputs.items

-- the node of this number gives the wire the signal as another name
abbrev pub Names : Flat → ℕ → ℕ → ℕ → Type 0
Names design node wire signal =
    at_or (λ k. name_given k (signal_widths design.signals.items)) None (map node_of design.nodes.items) node ≡ Some (record { wire = wire; signal = signal })

-- the root itself, or a wire that a node makes a name of such a one
pub data LeadsTo (design : Flat) (root : ℕ) : ℕ → Type 0 where
  Itself : LeadsTo design root root
  Over : (s node source : ℕ) → Names design node s source → LeadsTo design root source → LeadsTo design root s

-- a wire that is another name of a signal, and stands where that one does, at its own place; `source` is the signal that its node names
pub record IsAlias (design : Flat) (slots : List ℕ) (s : ℕ) : Type 0 where
  pub root : ℕ
  pub free : Held design s → ⊥
  pub there : root < length design.signals.items
  pub stands : slice_index slots s ≡ root + 1
  pub own : slice_index slots root ≡ root + 1
  pub wide : slice_index (signal_widths design.signals.items) s ≡ slice_index (signal_widths design.signals.items) root
  pub node : ℕ
  pub source : ℕ
  pub names : Names design node s source
  pub alike : slice_index slots source ≡ root + 1
  pub leads : LeadsTo design root source

-- each signal stands at a place of its own, one above its number, or is an alias
pub record AreShared (design : Flat) (slots : List ℕ) : Type 0 where
  pub long : length slots ≡ length design.signals.items
  pub each : (s : ℕ) → s < length design.signals.items → (slice_index slots s ≡ s + 1) ⊎ IsAlias design slots s

-- marks of the signals that stay at their own places: of registers, of inputs, and of those where another signal stands
pub record AreMarked (design : Flat) (slots : List ℕ) (marks : List Bool) : Type 0 where
  pub long : length marks ≡ length design.signals.items
  pub held : (s : ℕ) → s < length design.signals.items → Held design s → mark_at marks s ≡ true
  pub roots : (s r : ℕ) → slice_index slots s ≡ r + 1 → mark_at marks r ≡ false → s ≡ r
