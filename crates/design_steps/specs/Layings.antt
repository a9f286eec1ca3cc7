-- The layout of a design.
use Rattle.std.specs.Prelude.{◌≡◌, ℕ, ◌+◌, ◌-◌, ◌*◌, Bool, List, map, length, slice_index, if◌then◌else◌}
use Rattle.std.specs.List.{range_with_len}
use Rattle.typed_ir.specs.declared.flat.Flat.{Flat}
use Rattle.typed_ir.specs.declared.span.Span.{Span}
use Rattle.typed_ir.specs.Orders.{Member, Each, is_member}
use Rattle.typed_ir.specs.Flats.{signal_widths}
use Rattle.typed_ir.specs.FlatNodes.{node_of}
use Rattle.typed_ir.specs.Nodes.{FlatNode}
use Rattle.typed_ir.specs.Stmts.{targets}
use Rattle.typed_ir.specs.Statements.{stmt_of, sequence_of}
use Rattle.design_steps.specs.declared.layout.Layout.{Layout}
use Rattle.design_steps.specs.Statements.{stmt_constants}
use Rattle.design_steps.specs.Plans.{Plan}
use Rattle.design_steps.specs.Views.{plan_of}
use Rattle.design_steps.specs.Nodes.{as_statement, in_order}
use Rattle.design_steps.specs.Pooled.{nodes_constants}
use Rattle.design_steps.specs.Namings.{kept, AreShared}

-- the numbers of a design's signals
abbrev pub signals_of : Flat → List ℕ
signals_of design = range_with_len 0 (length design.signals.items)

-- places from here on are free
abbrev pub mark_of : Layout → ℕ
mark_of l = l.constants.first + length l.constants.values.keys + 1

-- a signal's own place, one above its number; 0 for one that isn't there
abbrev pub own : ℕ → ℕ → ℕ
own count s = slice_index (range_with_len 1 count) s

-- where clocked blocks put a signal's next value: as many places above its own one as there are signals; 0 for one that isn't there
abbrev pub next_of : ℕ → ℕ → ℕ
next_of count s = slice_index (range_with_len (count + 1) count) s

-- the layout with signals and next values at these places
abbrev pub with_places : Layout → (ℕ → ℕ) → (ℕ → ℕ) → Plan
with_places l slot next = record {
  slot = slot;
  next = next;
  place = (plan_of l).place;
  widths = (plan_of l).widths;
  constants = (plan_of l).constants;
}

-- with signals at these places
abbrev pub with_slots : Layout → (ℕ → ℕ) → Plan
with_slots l slot = with_places l slot (plan_of l).next

-- for the clocked blocks, which share no place of a next value with nodes
abbrev pub clocking_plan : Layout → Plan
clocking_plan l = with_places l (plan_of l).slot (next_of (length l.widths.items))

-- with each signal at its own place
abbrev pub own_plan : Layout → Plan
own_plan l = with_slots l (own (length l.widths.items))

-- whether a node writes some bits of a signal in place
abbrev pub writes : FlatNode → ℕ → Bool
writes k s = is_member s (map (λ (p : Span). p.signal) (targets (as_statement k)))

-- for one node: what stands where a signal does that the node writes has its own place instead
abbrev pub view_of : Layout → FlatNode → Plan
view_of l k = with_slots l (λ s. if writes k ((plan_of l).slot s - 1) then (own_plan l).slot s else (plan_of l).slot s)

-- signals stand at their own places, or where the one does of which they are another name; behind these are as many places for the next
-- values that clocked blocks put, then as many for those that nodes put, which nothing reads, then two for each register, to which words
-- are moved, and then the constants; each constant of the design is among them
pub record LaysOut (l : Layout) (design : Flat) : Type 0 where
  pub slots : AreShared design l.slots.items
  pub nexts : l.nexts.items ≡ range_with_len (2 * length design.signals.items + 1) (length design.signals.items)
  pub widths : l.widths.items ≡ signal_widths design.signals.items
  pub first : l.constants.first ≡ 3 * length design.signals.items + 2 * length design.registers.items + 1
  pub nodes : Each (λ v. Member v l.constants.values.keys) (nodes_constants (map node_of design.nodes.items))
  pub blocks : Each (λ v. Member v l.constants.values.keys) (stmt_constants (sequence_of (map stmt_of design.clocked.items)))

-- the nodes of an order that leave something to do
abbrev pub left_of : Layout → Flat → List ℕ → List FlatNode
left_of l design order = in_order (map node_of design.nodes.items) (kept l.widths.items l.slots.items (map node_of design.nodes.items) order)
