-- A module's own checks, step by step in the order of its text (IEEE Std 1364-2005, 12.2, 12.3 and 12.7).
use Rattle.std.specs.Prelude.{ℕ, Bool, false, if◌then◌else◌, List, [], ◌∷◌, ◌++◌, map, Option, Some, None, Result, Ok, Err}
use Rattle.ls_text.specs.declared.fault.Fault.{Fault}
use Rattle.verilog_ast.specs.declared.identifier.Identifier.{Identifier}
use Rattle.verilog_ast.specs.declared.port_net.PortNet.{PortNet}
use Rattle.verilog_ast.specs.declared.port_net.PortNet.TheVariants as net
use Rattle.verilog_ast.specs.Expressions.{Expression}
use Rattle.verilog_ast.specs.Declarations.{Kind, Declared, DeclaredReg, PortDeclaration, InputPort, OutputPort, NextPort, header_net}
use Rattle.verilog_ast.specs.Items as i
use Rattle.verilog_ast.specs.Items.{ConnectionList, ModuleInstance, ModuleItem, ModuleDeclaration}
use Rattle.verilog_ast.specs.Places.{no_place}
use Rattle.width_rules.specs.Faults.{fault_at}
use Rattle.width_rules.specs.Scopes.{Scope}
use Rattle.gen_unroll.specs.declared.parameter_sort.ParameterSort.{ParameterSort}
use Rattle.gen_unroll.specs.Declarations.{BitRange, range_or_none, declared_name}
use Rattle.gen_unroll.specs.Reaches.{Reach, reach_in, innermost, in_reach}
use Rattle.gen_unroll.specs.Steps.{ModuleStep, Listed, Port, Parameter, Item, Labelled, Opened, Closed}
use Rattle.gen_unroll.specs.Told.{Told}
use Rattle.gen_unroll.specs.Unrolled.{State, unrolled_module}
use Rattle.ls_text.specs.Answers.{◌>>=◌}
use Rattle.gen_unroll.specs.Values.{ConstantValue}
use Rattle.elaborate.specs.declared.declaration_kind.DeclarationKind.{DeclarationKind}
use Rattle.elaborate.specs.declared.declaration_kind.DeclarationKind.TheVariants as kind
use Rattle.clock_rules.specs.Connections.{connected}
use Rattle.module_names.specs.Listings.{is_listed}
use Rattle.module_names.specs.Modules.{module_named, parameters_of, header_ports}
use Rattle.elaborate.specs.Overrides.{overridden}
use Rattle.elaborate.specs.Tables.{Declaration, Table, declare, declare_net, initial, is_port, declared_as, kind_of_net}

-- an instance within a module: its block and its name, the name of its module, and the overrides of that one's parameters in their order
pub record ModuleChild : Type 0 where
  pub block : Option ℕ
  pub name : Identifier
  pub instantiated : Identifier
  pub overrides : List (Option ConstantValue)

-- what is known behind a step: the ports of the header and the declaration of the last one, the values of the parameters outside of
-- generate blocks, what was declared so far, and the instances so far
pub record Checked : Type 0 where
  pub ports : List Identifier
  pub port : Declaration
  pub parameters : List ConstantValue
  pub declared : Table
  pub children : List ModuleChild

abbrev pub declaration : DeclarationKind → Option BitRange → Bool → Identifier → Declaration
declaration k range signed n = record { at = n.at; kind = k; range = range; signed = signed }

abbrev pub nothing_checked : Checked
nothing_checked = record {
  ports = [];
  port = record { at = no_place; kind = kind.Input net.Wire; range = None; signed = false };
  parameters = [];
  declared = [];
  children = [];
}

-- one after another
abbrev pub each : {A : Type 0} → (A → Checked → Result Checked Fault) → List A → Checked → Result Checked Fault
each step [] c = Ok c
each step (x ∷ xs) c = step x c >>= λ next. each step xs next

abbrev pub range_of_kind : Scope → Kind → Result (Option BitRange) Fault
range_of_kind scope k = range_or_none scope k.range

-- a name in the innermost block
unfoldable pub plain : Reach → Identifier → Declaration → Checked → Result Checked Fault
plain here n d c = declare (innermost here.blocks) n d c.declared >>= λ t. Ok (record c { declared = t })

-- ---- the header (12.3.3, 12.3.4)

-- a port in the list of ports, where it stands once (28)
unfoldable pub list_port : Identifier → Checked → Result Checked Fault
list_port n c = if is_listed n.name.0 c.ports then Err (fault_at 28 n) else Ok (record c { ports = c.ports ++ n ∷ [] })

unfoldable pub declare_port : Reach → Identifier → Declaration → Option Expression → Checked → Result Checked Fault
declare_port here n d value c =
    plain here n d c
    >>= λ next. list_port n (record next { port = d })
    >>= λ listed. initial value n d.kind
    >>= λ _. Ok listed

-- a further name has the declaration of the port before
abbrev pub header_port : Reach → PortDeclaration → Checked → Result Checked Fault
header_port here (InputPort at net k n) c =
    range_of_kind here.scope k >>= λ r. declare_port here n (declaration (kind.Input (header_net net)) r k.signed n) None c
header_port here (OutputPort at net k x) c =
    range_of_kind here.scope k >>= λ r. declare_port here x.name (declaration (kind.Output (header_net net)) r k.signed x.name) x.value c
header_port here (NextPort x) c = declare_port here x.name (declaration c.port.kind c.port.range c.port.signed x.name) x.value c

-- ---- declarations of the body

-- a port, which the header has to list (27)
unfoldable pub body_port : Reach → DeclarationKind → Option BitRange → Bool → Identifier → Checked → Result Checked Fault
body_port here k range signed n c =
    plain here n (declaration k range signed n) c
    >>= λ next. if is_listed n.name.0 next.ports then Ok next else Err (fault_at 27 n)

unfoldable pub variable : Reach → PortNet → Option BitRange → Bool → Identifier → Option Expression → Checked → Result Checked Fault
variable here by range signed n value c =
    declare_net (innermost here.blocks) n by (declaration (kind_of_net by) range signed n) value c.declared
    >>= λ t. Ok (record c { declared = t })

abbrev pub wire : Reach → Option BitRange → Bool → Declared → Checked → Result Checked Fault
wire here range signed x c = variable here net.Wire range signed x.name x.value c

abbrev pub reg : Reach → Option BitRange → Bool → DeclaredReg → Checked → Result Checked Fault
reg here range signed x c = variable here net.Reg range signed x.name x.value c

abbrev pub inputs : Reach → PortNet → Kind → List Identifier → Checked → Result Checked Fault
inputs here by k ns c = range_of_kind here.scope k >>= λ r. each (body_port here (kind.Input by) r k.signed) ns c

abbrev pub outputs : Reach → PortNet → Kind → List Declared → Checked → Result Checked Fault
outputs here by k xs c = range_of_kind here.scope k >>= λ r. each (body_port here (kind.Output by) r k.signed) (map declared_name xs) c

abbrev pub wires : Reach → Kind → List Declared → Checked → Result Checked Fault
wires here k xs c = range_of_kind here.scope k >>= λ r. each (wire here r k.signed) xs c

abbrev pub regs : Reach → Kind → List DeclaredReg → Checked → Result Checked Fault
regs here k xs c = range_of_kind here.scope k >>= λ r. each (reg here r k.signed) xs c

abbrev pub genvar : Reach → Identifier → Checked → Result Checked Fault
genvar here n c = plain here n (declaration kind.Genvar None false n) c

-- ---- instances (12.1.2)

-- no module has the name (20)
abbrev pub or_no_module : Option ModuleDeclaration → Identifier → Result ModuleDeclaration Fault
or_no_module None n = Err (fault_at 20 n)
or_no_module (Some m) n = Ok m

-- an instance, of which the module and the overrides are known: its name, and then its connections
unfoldable pub one_instance : Reach → ModuleDeclaration → (instantiated : Identifier) → List (Option ConstantValue) → ModuleInstance → Checked → Result Checked Fault
one_instance here m instantiated vs x c =
    plain here x.name (declaration kind.Instance None false x.name) c
    >>= λ next. connected (header_ports m.ports) x.connections
    >>= λ _. Ok (record next { children = next.children ++ record { block = innermost here.blocks; name = x.name; instantiated = instantiated; overrides = vs } ∷ [] })

unfoldable pub instances : List ModuleDeclaration → Reach → Identifier → Option ConnectionList → List ModuleInstance → Checked → Result Checked Fault
instances ms here n overrides xs c =
    or_no_module (module_named n.name.0 ms) n
    >>= λ m. overridden here.scope (parameters_of m) overrides
    >>= λ vs. each (one_instance here m n vs) xs c

-- ---- parameters and localparams (12.2); those within a generate block are seen in it alone

abbrev pub with_parameter : Option ℕ → ConstantValue → Checked → Checked
with_parameter None v c = record c { parameters = c.parameters ++ v ∷ [] }
with_parameter (Some block) v c = c

unfoldable pub parameter : Reach → ParameterSort → Identifier → ConstantValue → Checked → Result Checked Fault
parameter here s n v c =
    plain here n (declaration (kind.Parameter s) None v.signed n) c >>= λ next. Ok (with_parameter (innermost here.blocks) v next)

-- ---- steps

abbrev pub check_item : List ModuleDeclaration → Reach → ModuleItem → Checked → Result Checked Fault
check_item ms here (i.Inputs at by k ns) c = inputs here by k ns c
check_item ms here (i.Outputs at by k xs) c = outputs here by k xs c
check_item ms here (i.Wires at k xs) c = wires here k xs c
check_item ms here (i.Regs at k xs) c = regs here k xs c
check_item ms here (i.Genvars at ns) c = each (genvar here) ns c
check_item ms here (i.Instances n overrides xs) c = instances ms here n overrides xs c
check_item ms here other c = Ok c

-- a step, before its names are in reach
abbrev pub check_step : List ModuleDeclaration → Reach → ModuleStep → Checked → Result Checked Fault
check_step ms here (Listed n) c = list_port n c
check_step ms here (Port p) c = header_port here p c
check_step ms here (Parameter s n v) c = parameter here s n v c
check_step ms here (Item x) c = check_item ms here x c
check_step ms here (Labelled n) c = plain here n (declaration kind.Label None false n) c
check_step ms here (Opened b items) c = Ok c
check_step ms here Closed c = Ok c

abbrev pub check_steps : List ModuleDeclaration → Reach → List ModuleStep → Checked → Result Checked Fault
check_steps ms here [] c = Ok c
check_steps ms here (s ∷ ss) c = check_step ms here s c >>= λ next. check_steps ms (in_reach s here) ss next

-- ---- behind the items: a name of the header without a declaration as a port (27)

abbrev pub is_declared_port : Option Declaration → Bool
is_declared_port None = false
is_declared_port (Some d) = is_port d.kind

abbrev pub ports_declared : List Identifier → Table → Result (Unit {0}) Fault
ports_declared [] table = Ok tt
ports_declared (n ∷ ns) table =
    if is_declared_port (declared_as (record { block = None; name = n.name.0 }) table) then ports_declared ns table else Err (fault_at 27 n)

-- ---- a module under the overrides of its parameters: the steps that unrolling tells, then its own fault, and then the ports of the header

abbrev pub ended : ModuleDeclaration → Result Checked Fault → Result State Fault → Result Checked Fault
ended m checks ending = checks >>= λ c. ending >>= λ _. ports_declared (header_ports m.ports) c.declared >>= λ _. Ok c

abbrev pub check_told : List ModuleDeclaration → ModuleDeclaration → Told State → Result Checked Fault
check_told ms m t = ended m (check_steps ms (reach_in m) t.said nothing_checked) t.ending

unfoldable pub checked : (turns : ℕ) → List ModuleDeclaration → ModuleDeclaration → List (Option ConstantValue) → Result Checked Fault
checked turns ms m overrides = check_told ms m (unrolled_module turns overrides m)
