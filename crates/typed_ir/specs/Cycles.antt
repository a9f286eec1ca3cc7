-- A flat design, its settled wires, one cycle, and runs.
use Rattle.std.specs.Prelude.{◌≡◌, true, false, ℕ, zero, suc, ◌+◌, ◌%◌, ◌^◌, Bool, List, [], ◌∷◌, ◌++◌, map, length, slice_index}
use Rattle.typed_ir.specs.declared.span.Span.{Span}
use Rattle.typed_ir.specs.declared.update.Update.{Update}
use Rattle.typed_ir.specs.Valuations.{Valuation, Places, put, look, any_within, nowhere}
use Rattle.typed_ir.specs.Stmts.{SizedStmt, all_applied, pending, later_targets}
use Rattle.typed_ir.specs.Nodes.{FlatNode, drive, node_drives, OneDriver, IsComplete}
use Rattle.typed_ir.specs.Orders.{round_by, any_drives, Each, Member, at_or}

-- a net or variable: the module that declares it, its hierarchical name, the lower bound of its declared range, its sign and
-- width (3.3, 3.9, 12.4), and what it has at the beginning where it is a register
pub record Signal : Type 0 where
  pub in_module : ℕ
  pub path : List ℕ
  pub lsb : ℕ
  pub signed : Bool
  pub width : ℕ
  pub initial : ℕ

pub record Flat : Type 0 where
  pub signals : List Signal
  -- the signals that are registers, and those that are data inputs
  pub registers : List ℕ
  pub inputs : List ℕ
  pub nodes : List FlatNode
  -- the clocked blocks
  pub clocked : List SizedStmt

abbrev pub width_at : Flat → ℕ → ℕ
width_at design s = slice_index (map (λ (x : Signal). x.width) design.signals) s

abbrev pub initial_at : Flat → ℕ → ℕ
initial_at design s = slice_index (map (λ (x : Signal). x.initial) design.signals) s

-- these signals with these values
abbrev pub fill : List ℕ → List ℕ → Valuation → Valuation
fill [] xs env = env
fill (s ∷ ss) [] env = env
fill (s ∷ ss) (x ∷ xs) env = put (fill ss xs env) s x

-- registers and inputs as given, all else 0: a variable keeps its value between assignments (3.2.2)
abbrev pub base : Flat → List ℕ → List ℕ → Valuation
base design state inputs = fill design.registers state (fill design.inputs inputs (λ s. 0))

-- all nodes at once (6.1.2, 9.7.5, 11.6.1); what no node drives is as in `base`
abbrev pub round : Flat → List ℕ → List ℕ → Valuation → Valuation
round design state inputs v = round_by drive design.nodes v (base design state inputs)

abbrev pub repeated : ℕ → (Valuation → Valuation) → Valuation → Valuation
repeated zero f v = v
repeated (suc n) f v = f (repeated n f v)

-- the settled wires, where no event is active any more (11.3): as many rounds as there are nodes, from all wires 0
unfoldable pub wires : Flat → List ℕ → List ℕ → Valuation
wires design state inputs = repeated (length design.nodes) (round design state inputs) (base design state inputs)

-- no node would change it: nothing is left to evaluate (11.3)
abbrev pub Satisfies : Flat → List ℕ → List ℕ → Valuation → Type 0
Satisfies design state inputs v = round design state inputs v ≡ v

-- no bit has two drivers, and no block has a latch
pub record IsSound (design : Flat) : Type 0 where
  pub one_driver : OneDriver design.nodes
  pub complete : Each IsComplete design.nodes

-- the updates of all clocked blocks, over the settled wires and the old registers (9.2.2, 11.3)
abbrev pub all_pending : List SizedStmt → Valuation → List Update
all_pending [] env = []
all_pending (st ∷ sts) env = pending st env ++ all_pending sts env

-- clocked blocks write registers alone
abbrev pub WritesRegisters : List ℕ → List SizedStmt → Type 0
WritesRegisters registers [] = Unit {0}
WritesRegisters registers (st ∷ sts) = Each (λ (p : Span). Member p.signal registers) (later_targets st) × WritesRegisters registers sts

-- the bits that a clocked block may write
abbrev pub block_writes : SizedStmt → Places
block_writes st = any_within (later_targets st)

abbrev pub writes_at : List SizedStmt → ℕ → Places
writes_at blocks k = at_or block_writes nowhere blocks k

-- no bit is written by two blocks
abbrev pub OneWriter : List SizedStmt → Type 0
OneWriter blocks = (a b s i : ℕ) → writes_at blocks a s i ≡ true → writes_at blocks b s i ≡ true → a ≡ b

-- registers, inputs and the bits that no node drives are as they are to be; driven bits may hold anything
abbrev pub IsReady : Flat → List ℕ → List ℕ → Valuation → Type 0
IsReady design state inputs env = (s i : ℕ) → any_drives node_drives design.nodes s i ≡ false → look env s i ≡ look (base design state inputs) s i

-- the registers at the beginning: the values of their declarations (6.2.1), else 0, which is this project's own
abbrev pub reset : Flat → List ℕ
reset design = map (initial_at design) design.registers

-- the registers after one cycle: an edge of the clock (9.7.2), the blocks that wait for it, and then their updates (9.2.2)
unfoldable pub step : Flat → List ℕ → List ℕ → List ℕ
step design state inputs =
    let v = wires design state inputs in map (all_applied (all_pending design.clocked v) v) design.registers

-- numbers cut to these widths; 0 where there is none
abbrev pub cut_to : List ℕ → List ℕ → List ℕ
cut_to [] xs = []
cut_to (w ∷ ws) [] = 0 ∷ cut_to ws []
cut_to (w ∷ ws) (x ∷ xs) = x % 2 ^ w ∷ cut_to ws xs

-- the data inputs that a row gives, each modulo 2 ^ width, as an assignment cuts (5.6); rows are this project's own
abbrev pub input : Flat → List ℕ → List ℕ
input design row = cut_to (map (width_at design) design.inputs) row

-- the state after n cycles, from cycle `a` on: cycle after cycle, which is this project's own
abbrev pub seg : Flat → (ℕ → List ℕ) → ℕ → ℕ → List ℕ → List ℕ
seg design rows a zero state = state
seg design rows a (suc n) state = step design (seg design rows a n state) (input design (rows (a + n)))

-- the state at cycle c: that many cycles from reset, which is this project's own
abbrev pub truth : Flat → (ℕ → List ℕ) → ℕ → List ℕ
truth design rows c = seg design rows 0 c (reset design)
