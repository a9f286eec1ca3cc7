-- What a module without such a fault keeps.
use Rattle.std.specs.Prelude.{◌≡◌, ◌≤◌, ◌+◌, ℕ, Bool, true, false, List}
use Rattle.typed_ir.specs.declared.span.Span.{Span}
use Rattle.typed_ir.specs.Orders.{Each, Member, at_or}
use Rattle.typed_ir.specs.Cycles.{WritesRegisters, block_writes}
use Rattle.typed_ir.specs.declared.signal_declaration.SignalDeclaration.{SignalDeclaration}
use Rattle.typed_ir.specs.declared.signal_kind.SignalKind.{SignalKind}
use Rattle.typed_ir.specs.declared.signal_kind.SignalKind.TheVariants.{Input, Net, Variable}
use Rattle.typed_ir.specs.Trees.{SizedUnit, count, own_drives, IsNodeSound}
use Rattle.typed_ir.specs.Items.{PlacedItem, PlacedItems}
use Rattle.width_rules.specs.declared.writer.Writer.TheVariants as writer
use Rattle.driver_rules.specs.Writes.{spans_of}
use Rattle.driver_rules.specs.Targets.{is_settled, may_write}

-- what an item drives or writes lies in the 128 bits that a signal can have
abbrev pub AreNarrowItems : PlacedItems → Type 0
AreNarrowItems p = Each (λ (x : PlacedItem). Each (λ (q : Span). q.low + q.width ≤ 128) (spans_of x.body)) p.items

abbrev pub is_input_kind : SignalKind → Bool
is_input_kind Input = true
is_input_kind Net = false
is_input_kind Variable = false

abbrev pub is_input : List SignalDeclaration → ℕ → Bool
is_input declarations s = at_or (λ (d : SignalDeclaration). is_input_kind d.kind) false declarations s

-- registers are just the variables that no combinational block writes, and data inputs are declared as inputs
pub record HasRoles (p : PlacedItems) : Type 0 where
  pub only : (s : ℕ) → Member s p.registers → may_write p.declarations (is_settled p.items) writer.Clocked s ≡ true
  pub all : (s : ℕ) → may_write p.declarations (is_settled p.items) writer.Clocked s ≡ true → Member s p.registers
  pub inputs : (s : ℕ) → Member s p.inputs → is_input p.declarations s ≡ true

-- the facts of a unit that its drivers give
pub record IsDriven (u : SizedUnit) : Type 0 where
  pub own : (s i : ℕ) → count (own_drives s i) u.nodes ≤ 1
  pub inputs_held : (s i : ℕ) → Member s u.inputs → count (own_drives s i) u.nodes ≡ 0
  pub registers_held : (s i : ℕ) → Member s u.registers → count (own_drives s i) u.nodes ≡ 0
  pub nodes : Each IsNodeSound u.nodes
  pub writers : (s i : ℕ) → count (λ st. block_writes st s i) u.clocked ≤ 1
  pub registers_only : WritesRegisters u.registers u.clocked
