-- The names in reach at each step of a module, with the numbers of its signals (IEEE Std 1364-2005, 12.7).
use Rattle.std.specs.Prelude.{ℕ, Bool, true, false, List, [], ◌∷◌, map, slice_get, slice_index_or, Option, Some, None}
use Rattle.typed_ir.specs.declared.signal_kind.SignalKind.{SignalKind}
use Rattle.typed_ir.specs.declared.signal_kind.SignalKind.TheVariants as kind
use Rattle.verilog_ast.specs.Declarations.{PortList, NoPorts, NamedPorts, DeclaredPorts}
use Rattle.verilog_ast.specs.Items as i
use Rattle.verilog_ast.specs.Items.{ModuleItem, ModuleDeclaration}
use Rattle.width_rules.specs.declared.writer.Writer.{Writer}
use Rattle.width_rules.specs.declared.writer.Writer.TheVariants as writer
use Rattle.width_rules.specs.Scopes.{Meaning, Signal, Unknown, Scope}
use Rattle.gen_unroll.specs.Declarations.{BitRange, declared_width, declared, all_declared, declared_name, declared_reg_name, port_name}
use Rattle.gen_unroll.specs.Reaches.{Reach, reach_in, in_reach}
use Rattle.gen_unroll.specs.Steps.{ModuleStep, Opened}
use Rattle.gen_unroll.specs.Signals.{NamedSignal}
use Rattle.gen_unroll.specs.Numbers.{NumberedSignal, in_block}

abbrev pub lsb_of : Option BitRange → ℕ
lsb_of None = 0
lsb_of (Some r) = r.low

abbrev pub signal_meaning : ℕ → Option BitRange → Bool → Writer → Meaning
signal_meaning k range signed writer = Signal k (declared_width range) (lsb_of range) signed writer

-- what its name stands for, where w says what may write the k-th signal
abbrev pub meaning_of_signal : (ℕ → Writer) → ℕ → NamedSignal → Meaning
meaning_of_signal w k x = signal_meaning k x.range x.signed (w k)

abbrev pub all_signals : (ℕ → Writer) → List NumberedSignal → Scope → Scope
all_signals w [] scope = scope
all_signals w (x ∷ xs) scope = all_signals w xs (declared scope x.signal.name (meaning_of_signal w x.number x.signal))

-- with the signals of a block, or of the module itself
abbrev pub with_signals : (ℕ → Writer) → List NamedSignal → Option ℕ → Scope → Scope
with_signals w xs b scope = all_signals w (in_block b xs) scope

abbrev pub with_own : (ℕ → Writer) → List NamedSignal → Option ℕ → Reach → Reach
with_own w xs b r = record r { scope = with_signals w xs b r.scope }

-- ---- nets and variables without a number stand for nothing

-- those that stand among the items of a block themselves
abbrev pub hidden : ModuleItem → Scope → Scope
hidden (i.Inputs at n k names) scope = all_declared Unknown names scope
hidden (i.Outputs at n k ports) scope = all_declared Unknown (map declared_name ports) scope
hidden (i.Wires at k nets) scope = all_declared Unknown (map declared_name nets) scope
hidden (i.Regs at k regs) scope = all_declared Unknown (map declared_reg_name regs) scope
hidden (i.Region at items) scope = hidden items scope
hidden (i.Items x xs) scope = hidden xs (hidden x scope)
hidden other scope = scope

-- the ports of a header that declares them
abbrev pub hidden_ports : PortList → Scope → Scope
hidden_ports NoPorts scope = scope
hidden_ports (NamedPorts names) scope = scope
hidden_ports (DeclaredPorts ports) scope = all_declared Unknown (map port_name ports) scope

-- all of a module itself
abbrev pub hidden_module : ModuleDeclaration → Scope → Scope
hidden_module m scope = hidden m.items (hidden_ports m.ports scope)

-- ---- at each step

-- where the module begins
abbrev pub unit_reach_in : (ℕ → Writer) → List NamedSignal → ModuleDeclaration → Reach
unit_reach_in w xs m = with_own w xs None (record (reach_in m) { scope = hidden_module m (reach_in m).scope })

-- a block has its own signals from its beginning on, and no other net or variable of its items
abbrev pub with_opened : (ℕ → Writer) → List NamedSignal → ModuleStep → Reach → Reach
with_opened w xs (Opened b items) r = with_own w xs (Some b.number) (record r { scope = hidden items r.scope })
with_opened w xs other r = r

abbrev pub unit_in_reach : (ℕ → Writer) → List NamedSignal → ModuleStep → Reach → Reach
unit_in_reach w xs s r = with_opened w xs s (in_reach s r)

-- ---- what may write a signal

-- a variable that is settled is no register
abbrev pub variable_writer : Bool → Writer
variable_writer true = writer.Combinational
variable_writer false = writer.Clocked

abbrev pub writer_by : Bool → SignalKind → Writer
writer_by settled kind.Input = writer.Nothing
writer_by settled kind.Net = writer.Continuous
writer_by settled kind.Variable = variable_writer settled

abbrev pub writer_at : Bool → Option NamedSignal → Writer
writer_at settled None = writer.Nothing
writer_at settled (Some x) = writer_by settled x.kind

abbrev pub writer_of : (settled : ℕ → Bool) → List NamedSignal → ℕ → Writer
writer_of settled xs k = writer_at (settled k) (slice_get xs k)

-- the k-th of a list of answers, false where there is none
abbrev pub is_settled : List Bool → ℕ → Bool
is_settled settled k = slice_index_or settled k false
