-- The names that stand in a plain tree, in the order of the text.
use Rattle.std.specs.Prelude.{List, [], ◌∷◌, ◌++◌, flat_map}
use Rattle.ls_text.specs.declared.name_id.NameId.{NameId}
use Rattle.verilog_ast.specs.declared.module.Module.{Module}
use Rattle.verilog_ast.specs.Views.{declarations_of}
use Rattle.verilog_ast.specs.Names.{names_of_option, names_of_identifiers, names_of_optional_label}
use Rattle.verilog_ast.specs.Expressions.{Expression, Literal, Whole, BitSelect, PartSelect, UpwardSelect, DownwardSelect, Unary, Binary, Conditional, Concatenation, Replication, Bracketed, NoPart, Parts, Target, Reference, Joined, NoTarget, Targets}
use Rattle.verilog_ast.specs.Statements.{CaseLabel, DontCare, Compared, Statement, Block, If, IfElse, Case, Assignment, Null, Default, Match, NoStatement, Statements}
use Rattle.verilog_ast.specs.Declarations.{RangeBounds, Kind, Declared, DeclaredReg, ParameterAssignment, HeaderParameterDeclaration, PortDeclaration, InputPort, OutputPort, NextPort, PortList, NoPorts, NamedPorts, DeclaredPorts}
use Rattle.verilog_ast.specs.Items as i
use Rattle.verilog_ast.specs.Items.{ConnectionByName, ConnectionByOrder, ConnectionList, ByName, ByOrder, ModuleInstance, ContinuousAssignment, LoopHead, ModuleItem, ModuleDeclaration}

-- ---- expressions

abbrev pub names_in_expression : Expression → List NameId
names_in_expression (Literal at x) = []
names_in_expression (Whole n) = n.name ∷ []
names_in_expression (BitSelect n x) = n.name ∷ names_in_expression x
names_in_expression (PartSelect n x y) = n.name ∷ (names_in_expression x ++ names_in_expression y)
names_in_expression (UpwardSelect n x y) = n.name ∷ (names_in_expression x ++ names_in_expression y)
names_in_expression (DownwardSelect n x y) = n.name ∷ (names_in_expression x ++ names_in_expression y)
names_in_expression (Unary at op x) = names_in_expression x
names_in_expression (Binary op x y) = names_in_expression x ++ names_in_expression y
names_in_expression (Conditional x y z) = names_in_expression x ++ (names_in_expression y ++ names_in_expression z)
names_in_expression (Concatenation at xs) = names_in_expression xs
names_in_expression (Replication at x ys) = names_in_expression x ++ names_in_expression ys
names_in_expression (Bracketed at x) = names_in_expression x
names_in_expression NoPart = []
names_in_expression (Parts x xs) = names_in_expression x ++ names_in_expression xs

abbrev pub names_in_target : Target → List NameId
names_in_target (Reference x) = names_in_expression x
names_in_target (Joined at xs) = names_in_target xs
names_in_target NoTarget = []
names_in_target (Targets x xs) = names_in_target x ++ names_in_target xs

-- ---- statements

abbrev pub names_in_label : CaseLabel → List NameId
names_in_label (DontCare at x) = []
names_in_label (Compared x) = names_in_expression x

abbrev pub names_in_statement : Statement → List NameId
names_in_statement (Block at l xs) = names_of_optional_label l ++ names_in_statement xs
names_in_statement (If at x y) = names_in_expression x ++ names_in_statement y
names_in_statement (IfElse at x y z) = names_in_expression x ++ (names_in_statement y ++ names_in_statement z)
names_in_statement (Case at which x ys) = names_in_expression x ++ names_in_statement ys
names_in_statement (Assignment x y) = names_in_target x ++ names_in_expression y
names_in_statement (Null at) = []
names_in_statement (Default at x) = names_in_statement x
names_in_statement (Match ls x) = flat_map names_in_label ls ++ names_in_statement x
names_in_statement NoStatement = []
names_in_statement (Statements x xs) = names_in_statement x ++ names_in_statement xs

-- ---- declarations

abbrev pub names_in_range : RangeBounds → List NameId
names_in_range x = names_in_expression x.high ++ names_in_expression x.low

abbrev pub names_in_kind : Kind → List NameId
names_in_kind x = names_of_option names_in_range x.range

abbrev pub names_in_declared : Declared → List NameId
names_in_declared x = x.name.name ∷ names_of_option names_in_expression x.value

abbrev pub names_in_declared_reg : DeclaredReg → List NameId
names_in_declared_reg x = x.name.name ∷ (names_of_option names_in_range x.addresses ++ names_of_option names_in_expression x.value)

abbrev pub names_in_parameter : ParameterAssignment → List NameId
names_in_parameter x = x.name.name ∷ names_in_expression x.value

abbrev pub names_in_header_parameter : HeaderParameterDeclaration → List NameId
names_in_header_parameter x = names_of_option names_in_kind x.kind ++ names_in_parameter x.parameter

abbrev pub names_in_port : PortDeclaration → List NameId
names_in_port (InputPort at net x n) = names_in_kind x ++ (n.name ∷ [])
names_in_port (OutputPort at net x y) = names_in_kind x ++ names_in_declared y
names_in_port (NextPort x) = names_in_declared x

abbrev pub names_in_ports : PortList → List NameId
names_in_ports NoPorts = []
names_in_ports (NamedPorts xs) = names_of_identifiers xs
names_in_ports (DeclaredPorts xs) = flat_map names_in_port xs

-- ---- items

abbrev pub names_in_by_name : ConnectionByName → List NameId
names_in_by_name x = x.name.name ∷ names_of_option names_in_expression x.value

abbrev pub names_in_by_order : ConnectionByOrder → List NameId
names_in_by_order x = names_of_option names_in_expression x.value

abbrev pub names_in_connections : ConnectionList → List NameId
names_in_connections (ByName xs) = flat_map names_in_by_name xs
names_in_connections (ByOrder xs) = flat_map names_in_by_order xs

abbrev pub names_in_instance : ModuleInstance → List NameId
names_in_instance x = x.name.name ∷ names_in_connections x.connections

abbrev pub names_in_assignment : ContinuousAssignment → List NameId
names_in_assignment x = names_in_target x.target ++ names_in_expression x.value

abbrev pub names_in_head : LoopHead → List NameId
names_in_head x = names_in_parameter x.start ++ (names_in_expression x.condition ++ names_in_parameter x.step)

abbrev pub names_in_item : ModuleItem → List NameId
names_in_item (i.Inputs at net x ns) = names_in_kind x ++ names_of_identifiers ns
names_in_item (i.Outputs at net x ys) = names_in_kind x ++ flat_map names_in_declared ys
names_in_item (i.Parameters at x ys) = names_in_kind x ++ flat_map names_in_parameter ys
names_in_item (i.LocalParameters at x ys) = names_in_kind x ++ flat_map names_in_parameter ys
names_in_item (i.Wires at x ys) = names_in_kind x ++ flat_map names_in_declared ys
names_in_item (i.Regs at x ys) = names_in_kind x ++ flat_map names_in_declared_reg ys
names_in_item (i.Genvars at ns) = names_of_identifiers ns
names_in_item (i.Assigns at xs) = flat_map names_in_assignment xs
names_in_item (i.Combinational at x) = names_in_statement x
names_in_item (i.Clocked at n x) = n.name ∷ names_in_statement x
names_in_item (i.Instances n x ys) = n.name ∷ (names_of_option names_in_connections x ++ flat_map names_in_instance ys)
names_in_item (i.Region at xs) = names_in_item xs
names_in_item (i.Loop at x n ys) = names_in_head x ++ (n.name ∷ names_in_item ys)
names_in_item (i.Conditional xs) = names_in_item xs
names_in_item (i.Branch at x n ys) = names_of_option names_in_expression x ++ (n.name ∷ names_in_item ys)
names_in_item i.NoItem = []
names_in_item (i.Items x xs) = names_in_item x ++ names_in_item xs

abbrev pub names_in_declaration : ModuleDeclaration → List NameId
names_in_declaration x = x.name.name ∷ (flat_map names_in_header_parameter x.parameters ++ (names_in_ports x.ports ++ names_in_item x.items))

-- the names in the modules of a text
abbrev pub names_in_modules : List Module → List NameId
names_in_modules xs = flat_map names_in_declaration (declarations_of xs)
