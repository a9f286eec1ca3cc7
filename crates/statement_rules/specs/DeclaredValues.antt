-- Declarations with values: of a net a continuous assignment, of a variable what it has at the beginning (IEEE Std 1364-2005, 6.1.1, 6.2.1).
use Rattle.std.specs.Prelude.{ℕ, ◌%◌, ◌^◌, Bool, true, false, if◌then◌else◌, List, [], ◌∷◌, ◌++◌, Option, Some, None}
use Rattle.ls_text.specs.declared.fault.Fault.{Fault}
use Rattle.typed_ir.specs.Sized.{value_of}
use Rattle.verilog_ast.specs.declared.identifier.Identifier.{Identifier}
use Rattle.verilog_ast.specs.declared.port_net.PortNet.{PortNet}
use Rattle.verilog_ast.specs.declared.port_net.PortNet.TheVariants as net
use Rattle.verilog_ast.specs.Expressions.{Expression, Whole, Target, Reference}
use Rattle.verilog_ast.specs.Declarations.{Declared, DeclaredReg, PortDeclaration, InputPort, OutputPort, NextPort}
use Rattle.verilog_ast.specs.Items.{ContinuousAssignment}
use Rattle.width_rules.specs.declared.writer.Writer.{Writer}
use Rattle.width_rules.specs.declared.writer.Writer.TheVariants as writer
use Rattle.width_rules.specs.declared.due.Due.{Due}
use Rattle.width_rules.specs.declared.due.Due.TheVariants.{AnyValue, ConstantOnly}
use Rattle.width_rules.specs.Scopes.{Meaning, Signal, Constant, Turn, Genvar, Unknown, Scope}
use Rattle.width_rules.specs.Faults.{faults}
use Rattle.width_rules.specs.Sizes.{no_signals}
use Rattle.statement_rules.specs.Statements.{assigned}
use Rattle.statement_rules.specs.declared.value_kind.ValueKind.{ValueKind}
use Rattle.statement_rules.specs.declared.value_kind.ValueKind.TheVariants as kind
use Rattle.statement_rules.specs.Targets.{target_length, target_faults, kind_faults}

-- ---- the names that are declared with a value

pub record DeclaredValue : Type 0 where
  pub kind : ValueKind
  pub name : Identifier
  pub value : Expression

-- an output is a net without `reg`
abbrev pub kind_of_net : PortNet → ValueKind
kind_of_net net.Nothing = kind.Net
kind_of_net net.Wire = kind.Net
kind_of_net net.Reg = kind.Variable

abbrev pub value_if : ValueKind → Identifier → Option Expression → List DeclaredValue
value_if k n None = []
value_if k n (Some e) = record { kind = k; name = n; value = e } ∷ []

abbrev pub values_of : ValueKind → List Declared → List DeclaredValue
values_of k [] = []
values_of k (x ∷ xs) = value_if k x.name x.value ++ values_of k xs

abbrev pub reg_values_of : List DeclaredReg → List DeclaredValue
reg_values_of [] = []
reg_values_of (x ∷ xs) = value_if kind.Variable x.name x.value ++ reg_values_of xs

abbrev pub port_values : PortDeclaration → List DeclaredValue
port_values (InputPort at net k n) = []
port_values (OutputPort at net k x) = value_if (kind_of_net net) x.name x.value
port_values (NextPort x) = value_if kind.AsDeclared x.name x.value

abbrev pub name_of : DeclaredValue → Target
name_of x = Reference (Whole x.name)

-- what it is where a continuous assignment drives it
abbrev pub as_assignment : DeclaredValue → ContinuousAssignment
as_assignment x = record { target = name_of x; value = x.value }

-- ---- what takes it, by its declaration

-- whether a continuous assignment drives it
abbrev pub is_driven : Writer → Bool
is_driven writer.Nothing = false
is_driven writer.Continuous = true
is_driven writer.Clocked = false
is_driven writer.Combinational = false

abbrev pub is_net : Meaning → Bool
is_net (Signal signal width lsb signed writer) = is_driven writer
is_net (Constant width value signed) = false
is_net (Turn width value signed) = false
is_net Genvar = false
is_net Unknown = false

abbrev pub is_net_by : ValueKind → (declared : Bool) → Bool
is_net_by kind.Net declared = true
is_net_by kind.Variable declared = false
is_net_by kind.AsDeclared declared = declared

abbrev pub is_net_value : Scope → DeclaredValue → Bool
is_net_value scope x = is_net_by x.kind (is_net (scope x.name.name.0))

-- the number of a net or variable; as in the sized form, 0 for what is none
abbrev pub signal_in : Meaning → ℕ
signal_in (Signal signal width lsb signed writer) = signal
signal_in (Constant width value signed) = 0
signal_in (Turn width value signed) = 0
signal_in Genvar = 0
signal_in Unknown = 0

-- ---- what may be wrong: the value of a variable has to be constant, and only a register has one (33, at its name)

abbrev pub due_by : Bool → Due
due_by net = if net then AnyValue else ConstantOnly

abbrev pub writer_by : Bool → Writer
writer_by net = if net then writer.Continuous else writer.Clocked

abbrev pub value_faults : Scope → DeclaredValue → List Fault
value_faults scope x = target_faults scope ConstantOnly (name_of x) ++ faults scope (due_by (is_net_value scope x)) x.value

abbrev pub value_kinds : Scope → DeclaredValue → List Fault
value_kinds scope x = kind_faults scope (writer_by (is_net_value scope x)) (name_of x)

abbrev pub all_value_faults : Scope → List DeclaredValue → List Fault
all_value_faults scope [] = []
all_value_faults scope (x ∷ xs) = value_faults scope x ++ all_value_faults scope xs

abbrev pub all_value_kinds : Scope → List DeclaredValue → List Fault
all_value_kinds scope [] = []
all_value_kinds scope (x ∷ xs) = value_kinds scope x ++ all_value_kinds scope xs

-- of an item: those of all expressions, and only then those of the names
abbrev pub declaration_faults : Scope → List DeclaredValue → List Fault
declaration_faults scope xs = all_value_faults scope xs ++ all_value_kinds scope xs

-- ---- values at the beginning, with an assignment's sizing (5.4.1)

pub record InitialValue : Type 0 where
  pub signal : ℕ
  pub value : ℕ

abbrev pub initial_value : Scope → DeclaredValue → InitialValue
initial_value scope x = record {
  signal = signal_in (scope x.name.name.0);
  value = value_of (assigned scope (target_length scope (name_of x)) x.value) no_signals % 2 ^ target_length scope (name_of x);
}

abbrev pub declaration_initials : Scope → List DeclaredValue → List InitialValue
declaration_initials scope [] = []
declaration_initials scope (x ∷ xs) =
    (if is_net_value scope x then [] else initial_value scope x ∷ []) ++ declaration_initials scope xs
