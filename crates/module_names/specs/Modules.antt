-- What an instance has to know of the module that it instantiates: which parameters can be overridden (IEEE Std 1364-2005, 12.2), and
-- its ports in the order of the header, with the inputs among them (12.3).
use Rattle.std.specs.Prelude.{ℕ, Bool, true, false, ◌==◌, if◌then◌else◌, List, [], ◌∷◌, ◌++◌, map, Option, Some, None}
use Rattle.verilog_ast.specs.declared.identifier.Identifier.{Identifier}
use Rattle.verilog_ast.specs.Declarations.{assigned_name, header_parameter_name, PortDeclaration, InputPort, OutputPort, NextPort, PortList, NoPorts, NamedPorts, DeclaredPorts}
use Rattle.verilog_ast.specs.Items as i
use Rattle.verilog_ast.specs.Items.{ModuleItem, ModuleDeclaration}
use Rattle.module_names.specs.Listings.{is_listed}

-- the first module of a name
abbrev pub module_named : ℕ → List ModuleDeclaration → Option ModuleDeclaration
module_named name [] = None
module_named name (m ∷ ms) = if name == m.name.name.0 then Some m else module_named name ms

-- ---- parameters that can be overridden, in the order of the text

abbrev pub item_parameters : ModuleItem → List Identifier
item_parameters (i.Items x xs) = item_parameters x ++ item_parameters xs
item_parameters (i.Parameters at k ps) = map assigned_name ps
item_parameters other = []

abbrev pub parameters_of : ModuleDeclaration → List Identifier
parameters_of m = map header_parameter_name m.parameters ++ item_parameters m.items

-- ---- ports, in the order of the header

abbrev pub port_name : PortDeclaration → Identifier
port_name (InputPort at net k n) = n
port_name (OutputPort at net k x) = x.name
port_name (NextPort x) = x.name

abbrev pub header_ports : PortList → List Identifier
header_ports NoPorts = []
header_ports (NamedPorts ns) = ns
header_ports (DeclaredPorts ps) = map port_name ps

-- ---- inputs, those of the header and then those of the body

-- whether a port is an input; a further name has the direction of the port before
abbrev pub is_input : (before : Bool) → PortDeclaration → Bool
is_input before (InputPort at net k n) = true
is_input before (OutputPort at net k x) = false
is_input before (NextPort x) = before

abbrev pub name_if : Bool → PortDeclaration → List Identifier
name_if true p = port_name p ∷ []
name_if false p = []

abbrev pub declared_inputs : (before : Bool) → List PortDeclaration → List Identifier
declared_inputs before [] = []
declared_inputs before (p ∷ ps) = name_if (is_input before p) p ++ declared_inputs (is_input before p) ps

-- a header that begins with a further name has an input there
abbrev pub header_inputs : PortList → List Identifier
header_inputs NoPorts = []
header_inputs (NamedPorts ns) = []
header_inputs (DeclaredPorts ps) = declared_inputs true ps

abbrev pub item_inputs : ModuleItem → List Identifier
item_inputs (i.Items x xs) = item_inputs x ++ item_inputs xs
item_inputs (i.Inputs at net k ns) = ns
item_inputs other = []

abbrev pub inputs_of : ModuleDeclaration → List Identifier
inputs_of m = header_inputs m.ports ++ item_inputs m.items

-- whether a name is that of an input of a module
abbrev pub is_input_of : ModuleDeclaration → ℕ → Bool
is_input_of m name = is_listed name (inputs_of m)
