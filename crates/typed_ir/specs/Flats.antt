-- What the parts of a flat design mean together.
use Rattle.std.specs.Prelude.{◌≡◌, ℕ, Bool, true, false, ◌&&◌, ◌⊎◌, nat_lt, List, [], ◌∷◌, map}
use Rattle.typed_ir.specs.Stmts.{is_legal, is_clocked, WritesFirst}
use Rattle.typed_ir.specs.Nodes.{FlatNode, Drive, Block, node_drives}
use Rattle.typed_ir.specs.Orders.{Member, Each, Distinct, any_drives}
use Rattle.typed_ir.specs.Cycles.{Signal, Flat, IsSound, WritesRegisters, OneWriter}
use Rattle.typed_ir.specs.Statements.{stmt_of}
use Rattle.typed_ir.specs.FlatNodes.{node_of}
use Rattle.typed_ir.specs.Paths.{path_in}
use Rattle.typed_ir.specs.declared.instance_name.InstanceName.{InstanceName}
use Rattle.typed_ir.specs.declared.signal.Signal.{Signal as Signal'}
use Rattle.typed_ir.specs.declared.node.Node.{Node}
use Rattle.typed_ir.specs.declared.stmt.Stmt.{Stmt}

-- a signal where these are the instances
abbrev pub signal_of : List InstanceName → Signal' → Signal
signal_of rows x = record {
  in_module = x.in_module.0;
  path = path_in rows x.instance x.name.0;
  lsb = x.lsb;
  signed = x.signed;
  width = x.width;
  initial = x.initial;
}

abbrev pub signal_widths : List Signal' → List ℕ
signal_widths signals = map (λ (x : Signal'). x.width) signals

abbrev pub flat_from : List InstanceName → List Signal' → List ℕ → List ℕ → List Node → List Stmt → Flat
flat_from rows signals registers inputs nodes clocked = record {
  signals = map (signal_of rows) signals;
  registers = registers;
  inputs = inputs;
  nodes = map node_of nodes;
  clocked = map stmt_of clocked;
}

-- the clocked blocks are of these widths and have nonblocking assignments alone
abbrev pub are_clocked : List Stmt → List ℕ → Bool
are_clocked [] widths = true
are_clocked (st ∷ sts) widths = (is_legal (stmt_of st) widths && is_clocked (stmt_of st)) && are_clocked sts widths

abbrev pub are_below : List ℕ → ℕ → Bool
are_below [] count = true
are_below (s ∷ ss) count = nat_lt s count && are_below ss count

-- each signal names one of so many instances
abbrev pub are_within : List Signal' → ℕ → Bool
are_within [] count = true
are_within (x ∷ xs) count = nat_lt x.instance count && are_within xs count

-- a combinational block writes each of its bits before it reads it
abbrev pub NodeWritesFirst : FlatNode → Type 0
NodeWritesFirst (Drive form lanes e) = Unit {0}
NodeWritesFirst (Block shown body) = WritesFirst body

-- what a flat design keeps beside its widths
pub record IsFlat (design : Flat) : Type 0 where
  pub sound : IsSound design
  pub first : Each NodeWritesFirst design.nodes
  -- no bit is written by two clocked blocks
  pub one_writer : OneWriter design.clocked
  -- clocked blocks write registers alone; registers and data inputs are apart, each once, and no node drives them
  pub registers_only : WritesRegisters design.registers design.clocked
  pub registers_once : Distinct design.registers
  pub inputs_once : Distinct design.inputs
  pub apart : (s : ℕ) → Member s design.registers → Member s design.inputs → ⊥
  pub held : (s i : ℕ) → Member s design.registers ⊎ Member s design.inputs → any_drives node_drives design.nodes s i ≡ false
