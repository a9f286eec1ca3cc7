-- What a program is of a design, and words that it runs over.
use Rattle.std.specs.Prelude.{◌≡◌, ◌<◌, ◌^◌, ℕ, List, [], length, map, IsTrue}
use Rattle.typed_ir.specs.declared.flat.Flat.{Flat}
use Rattle.typed_ir.specs.declared.linked.Linked.{Linked}
use Rattle.typed_ir.specs.Cycles.{IsReady as IsBased}
use Rattle.typed_ir.specs.Nodes.{FlatNode}
use Rattle.typed_ir.specs.Linkeds.{flat}
use Rattle.typed_ir.specs.Orders.{Member}
use Rattle.typed_ir.specs.Statements.{stmt_of, sequence_of}
use Rattle.typed_ir.specs.Valuations.{Valuation}
use Rattle.word_steps.specs.Sound.{are_sound}
use Rattle.design_steps.specs.declared.layout.Layout.{Layout}
use Rattle.design_steps.specs.Plans.{IsReady, signals, width_at}
use Rattle.design_steps.specs.Statements.{stmt_code}
use Rattle.design_steps.specs.Nodes.{nodes_code}
use Rattle.design_steps.specs.Views.{plan_of}
use Rattle.design_steps.specs.Moves.{moved_step, env_by, gathered}
use Rattle.design_steps.specs.Layings.{LaysOut, left_of, own_plan, clocking_plan, mark_of, signals_of}
use Rattle.design_steps.specs.declared.program.Program.{Program}

-- what the signals have at their own places
abbrev pub values_in : Program → List ℕ → Valuation
values_in p words = signals (own_plan p.layout) (env_by p.places.items words)

-- what they have where they stand: a wire that is another name of a signal has what that one has
abbrev pub seen_in : Program → List ℕ → Valuation
seen_in p words = signals (plan_of p.layout) (env_by p.places.items words)

-- next values fit, and those of registers are what the registers have
pub record AreNext (layout : Layout) (design : Flat) (w : Valuation) : Type 0 where
  pub fits : (s : ℕ) → Member s (signals_of design) → w ((clocking_plan layout).next s) < 2 ^ width_at (own_plan layout) s
  pub same : (s : ℕ) → Member s design.registers.items → w ((clocking_plan layout).next s) ≡ w ((own_plan layout).slot s)

-- values fit and constants are there; and each register's next value is what the register has
pub record AreHeld (p : Program) (l : Linked) (words : List ℕ) : Type 0 where
  pub ready : IsReady (own_plan p.layout) (signals_of l.design) (env_by p.places.items words)
  pub nexts : AreNext p.layout l.design (env_by p.places.items words)

-- the nodes that leave something to do, in their order
abbrev pub kept_nodes : Layout → Linked → List FlatNode
kept_nodes layout l = left_of layout l.design l.order.items

-- values fit and constants are there, and next values are the registers; and these, the inputs and the bits that no node drives are as they
-- are to be
pub record IsAt (p : Program) (l : Linked) (state inputs words : List ℕ) : Type 0 where
  pub ready : AreHeld p l words
  pub based : IsBased (flat l.design) state inputs (values_in p words)

-- the steps of the nodes in their order, and those of the clocked blocks, over words that are moved, for which both are sound
pub record IsProgramOf (p : Program) (l : Linked) : Type 0 where
  pub lays : LaysOut p.layout l.design
  pub places : p.places.items ≡ gathered (length l.design.signals.items) l.design.registers.items
  pub settles : p.settling.items ≡ map (moved_step p.places.items) (nodes_code (plan_of p.layout) (kept_nodes p.layout l) (mark_of p.layout))
  pub clocks : p.clocking.items
      ≡ map (moved_step p.places.items) (stmt_code (clocking_plan p.layout) (sequence_of (map stmt_of l.design.clocked.items)) (mark_of p.layout))
  pub sound_nodes : IsTrue (are_sound (length p.beginning.items) p.settling.items)
  pub sound_blocks : IsTrue (are_sound (length p.beginning.items) p.clocking.items)
  pub room : mark_of p.layout < length p.beginning.items
  pub begins : IsAt p l [] [] p.beginning.items
