-- The nets and variables that a module declares, step by step in the order of its text (IEEE Std 1364-2005, 4.2, 4.3 and 12.3). A module
-- that was checked has each name once in its scope, but for a port that the body completes.
use Rattle.std.specs.Prelude.{ℕ, Bool, true, false, ◌&&◌, ◌==◌, ◌-◌, if◌then◌else◌, List, [], ◌∷◌, ◌++◌, map, length, slice_get, Option, Some, None, Result, Ok}
use Rattle.ls_text.specs.declared.fault.Fault.{Fault}
use Rattle.verilog_ast.specs.declared.identifier.Identifier.{Identifier}
use Rattle.verilog_ast.specs.declared.port_net.PortNet.{PortNet}
use Rattle.verilog_ast.specs.declared.port_net.PortNet.TheVariants as net
use Rattle.verilog_ast.specs.Declarations.{Kind, Declared, DeclaredReg, PortDeclaration, InputPort, OutputPort, NextPort, header_net}
use Rattle.verilog_ast.specs.Items as i
use Rattle.verilog_ast.specs.Items.{ModuleItem}
use Rattle.typed_ir.specs.declared.signal_kind.SignalKind.{SignalKind}
use Rattle.typed_ir.specs.declared.signal_kind.SignalKind.TheVariants as kind
use Rattle.gen_unroll.specs.Declarations.{BitRange, range_or_none, declared_name, declared_reg_name}
use Rattle.gen_unroll.specs.Reaches.{Reach, innermost, in_reach}
use Rattle.gen_unroll.specs.Steps.{ModuleStep, Listed, Port, Parameter, Item, Labelled, Opened, Closed}
use Rattle.ls_text.specs.Answers.{◌>>=◌}

pub record NamedSignal : Type 0 where
  -- the block that declares it, none for the module itself
  pub block : Option ℕ
  pub name : Identifier
  pub kind : SignalKind
  pub range : Option BitRange
  pub signed : Bool
  pub port : Bool
  -- `wire` or `reg`, or that a port was declared without them
  pub net : PortNet
  -- how many were declared before it
  pub order : ℕ

abbrev pub is_outermost : Option ℕ → Bool
is_outermost None = true
is_outermost (Some b) = false

-- a port of the module itself
abbrev pub is_port : NamedSignal → Bool
is_port x = x.port && is_outermost x.block

-- the same of this name
abbrev pub is_port_named : ℕ → NamedSignal → Bool
is_port_named name x = is_port x && (x.name.name.0 == name)

-- ---- ports (12.3.3, 12.3.4)

-- an output that is declared with `reg` is a variable
abbrev pub kind_of_net : PortNet → SignalKind
kind_of_net net.Nothing = kind.Net
kind_of_net net.Wire = kind.Net
kind_of_net net.Reg = kind.Variable

abbrev pub with_port : Option ℕ → SignalKind → PortNet → Option BitRange → Bool → Identifier → List NamedSignal → List NamedSignal
with_port here k net range signed n xs =
    xs ++ record { block = here; name = n; kind = k; range = range; signed = signed; port = true; net = net; order = length xs } ∷ []

abbrev pub with_ports : Option ℕ → SignalKind → PortNet → Option BitRange → Bool → List Identifier → List NamedSignal → List NamedSignal
with_ports here k net range signed [] xs = xs
with_ports here k net range signed (n ∷ ns) xs = with_ports here k net range signed ns (with_port here k net range signed n xs)

-- a further name has the declaration of the port before; without one it is an input
abbrev pub with_next : Option NamedSignal → Option ℕ → Identifier → List NamedSignal → List NamedSignal
with_next None here n xs = with_port here kind.Input net.Wire None false n xs
with_next (Some port) here n xs = with_port here port.kind port.net port.range port.signed n xs

-- what was declared last, which in a header is the port before
abbrev pub last_of : List NamedSignal → Option NamedSignal
last_of xs = slice_get xs (length xs - 1)

-- ---- nets and variables (4.2), which complete a port of their name

abbrev pub completed_kind : PortNet → SignalKind → SignalKind
completed_kind by kind.Input = kind.Input
completed_kind by kind.Net = kind_of_net by
completed_kind by kind.Variable = kind_of_net by

-- a port that `wire` or `reg` completes keeps its place
abbrev pub completed : PortNet → NamedSignal → NamedSignal
completed by x = record x { kind = completed_kind by x.kind; net = by }

-- whether a declaration of a name here is that of a port
abbrev pub completes : Option ℕ → ℕ → NamedSignal → Bool
completes here name x = is_outermost here && is_port_named name x

-- the port that a declaration completes, else one more
abbrev pub put : NamedSignal → List NamedSignal → List NamedSignal
put d [] = d ∷ []
put d (x ∷ xs) = if completes d.block d.name.name.0 x then completed d.net x ∷ xs else x ∷ put d xs

abbrev pub with_net : Option ℕ → PortNet → Option BitRange → Bool → Identifier → List NamedSignal → List NamedSignal
with_net here by range signed n xs =
    put (record { block = here; name = n; kind = kind_of_net by; range = range; signed = signed; port = false; net = by; order = length xs }) xs

abbrev pub with_nets : Option ℕ → PortNet → Option BitRange → Bool → List Identifier → List NamedSignal → List NamedSignal
with_nets here by range signed [] xs = xs
with_nets here by range signed (n ∷ ns) xs = with_nets here by range signed ns (with_net here by range signed n xs)

-- ---- steps; the range of a declaration is evaluated once, in the scope of its step

abbrev pub range_in : Reach → Kind → Result (Option BitRange) Fault
range_in here k = range_or_none here.scope k.range

abbrev pub complete_port : Reach → SignalKind → PortNet → Kind → Identifier → List NamedSignal → Result (List NamedSignal) Fault
complete_port here direction by k n xs = range_in here k >>= λ r. Ok (with_port (innermost here.blocks) direction (header_net by) r k.signed n xs)

abbrev pub header_port : Reach → PortDeclaration → List NamedSignal → Result (List NamedSignal) Fault
header_port here (InputPort at by k n) xs = complete_port here kind.Input by k n xs
header_port here (OutputPort at by k x) xs = complete_port here (kind_of_net by) by k x.name xs
header_port here (NextPort x) xs = Ok (with_next (last_of xs) (innermost here.blocks) x.name xs)

abbrev pub inputs : Reach → PortNet → Kind → List Identifier → List NamedSignal → Result (List NamedSignal) Fault
inputs here by k ns xs = range_in here k >>= λ r. Ok (with_ports (innermost here.blocks) kind.Input by r k.signed ns xs)

abbrev pub outputs : Reach → PortNet → Kind → List Declared → List NamedSignal → Result (List NamedSignal) Fault
outputs here by k ports xs =
    range_in here k >>= λ r. Ok (with_ports (innermost here.blocks) (kind_of_net by) by r k.signed (map declared_name ports) xs)

abbrev pub wires : Reach → Kind → List Declared → List NamedSignal → Result (List NamedSignal) Fault
wires here k nets xs = range_in here k >>= λ r. Ok (with_nets (innermost here.blocks) net.Wire r k.signed (map declared_name nets) xs)

abbrev pub regs : Reach → Kind → List DeclaredReg → List NamedSignal → Result (List NamedSignal) Fault
regs here k all xs = range_in here k >>= λ r. Ok (with_nets (innermost here.blocks) net.Reg r k.signed (map declared_reg_name all) xs)

abbrev pub item_signals : Reach → ModuleItem → List NamedSignal → Result (List NamedSignal) Fault
item_signals here (i.Inputs at by k ns) xs = inputs here by k ns xs
item_signals here (i.Outputs at by k ports) xs = outputs here by k ports xs
item_signals here (i.Wires at k nets) xs = wires here k nets xs
item_signals here (i.Regs at k all) xs = regs here k all xs
item_signals here other xs = Ok xs

-- what a step declares, behind these
abbrev pub step_signals : Reach → ModuleStep → List NamedSignal → Result (List NamedSignal) Fault
step_signals here (Listed n) xs = Ok xs
step_signals here (Port p) xs = header_port here p xs
step_signals here (Parameter s n v) xs = Ok xs
step_signals here (Item x) xs = item_signals here x xs
step_signals here (Labelled n) xs = Ok xs
step_signals here (Opened b items) xs = Ok xs
step_signals here Closed xs = Ok xs

-- the signals in the order of their declarations, or the first fault of a range
abbrev pub declared_in : Reach → List ModuleStep → List NamedSignal → Result (List NamedSignal) Fault
declared_in here [] xs = Ok xs
declared_in here (s ∷ ss) xs = step_signals here s xs >>= λ ys. declared_in (in_reach s here) ss ys
