-- Plain trees without their places: each stands at one place, and all else stays.
use Rattle.std.specs.Prelude.{map}
use Rattle.std.specs.Option.{option_map}
use Rattle.verilog_ast.specs.declared.identifier.Identifier.{Identifier}
use Rattle.verilog_ast.specs.Places.{no_place}
use Rattle.verilog_ast.specs.Expressions.{Expression, Literal, Whole, BitSelect, PartSelect, UpwardSelect, DownwardSelect, Unary, Binary, Conditional, Concatenation, Replication, Bracketed, NoPart, Parts, Target, Reference, Joined, NoTarget, Targets}
use Rattle.verilog_ast.specs.Statements.{CaseLabel, DontCare, Compared, Statement, Block, If, IfElse, Case, Assignment, Null, Default, Match, NoStatement, Statements}
use Rattle.verilog_ast.specs.Declarations.{RangeBounds, Kind, Declared, DeclaredReg, ParameterAssignment, HeaderParameterDeclaration, PortDeclaration, InputPort, OutputPort, NextPort, PortList, NoPorts, NamedPorts, DeclaredPorts}
use Rattle.verilog_ast.specs.Items as i
use Rattle.verilog_ast.specs.Items.{ConnectionByName, ConnectionByOrder, ConnectionList, ByName, ByOrder, ModuleInstance, ContinuousAssignment, LoopHead, ModuleItem, ModuleDeclaration}

-- ---- names

abbrev pub unplaced_name : Identifier → Identifier
unplaced_name n = record n { at = no_place }

-- ---- expressions

abbrev pub unplaced_expression : Expression → Expression
unplaced_expression (Literal at x) = Literal no_place x
unplaced_expression (Whole n) = Whole (unplaced_name n)
unplaced_expression (BitSelect n x) = BitSelect (unplaced_name n) (unplaced_expression x)
unplaced_expression (PartSelect n x y) = PartSelect (unplaced_name n) (unplaced_expression x) (unplaced_expression y)
unplaced_expression (UpwardSelect n x y) = UpwardSelect (unplaced_name n) (unplaced_expression x) (unplaced_expression y)
unplaced_expression (DownwardSelect n x y) = DownwardSelect (unplaced_name n) (unplaced_expression x) (unplaced_expression y)
unplaced_expression (Unary at op x) = Unary no_place op (unplaced_expression x)
unplaced_expression (Binary op x y) = Binary op (unplaced_expression x) (unplaced_expression y)
unplaced_expression (Conditional x y z) = Conditional (unplaced_expression x) (unplaced_expression y) (unplaced_expression z)
unplaced_expression (Concatenation at xs) = Concatenation no_place (unplaced_expression xs)
unplaced_expression (Replication at x ys) = Replication no_place (unplaced_expression x) (unplaced_expression ys)
unplaced_expression (Bracketed at x) = Bracketed no_place (unplaced_expression x)
unplaced_expression NoPart = NoPart
unplaced_expression (Parts x xs) = Parts (unplaced_expression x) (unplaced_expression xs)

abbrev pub unplaced_target : Target → Target
unplaced_target (Reference x) = Reference (unplaced_expression x)
unplaced_target (Joined at xs) = Joined no_place (unplaced_target xs)
unplaced_target NoTarget = NoTarget
unplaced_target (Targets x xs) = Targets (unplaced_target x) (unplaced_target xs)

-- ---- statements

abbrev pub unplaced_label : CaseLabel → CaseLabel
unplaced_label (DontCare at x) = DontCare no_place x
unplaced_label (Compared x) = Compared (unplaced_expression x)

abbrev pub unplaced_statement : Statement → Statement
unplaced_statement (Block at l xs) = Block no_place (option_map unplaced_name l) (unplaced_statement xs)
unplaced_statement (If at x y) = If no_place (unplaced_expression x) (unplaced_statement y)
unplaced_statement (IfElse at x y z) = IfElse no_place (unplaced_expression x) (unplaced_statement y) (unplaced_statement z)
unplaced_statement (Case at which x ys) = Case no_place which (unplaced_expression x) (unplaced_statement ys)
unplaced_statement (Assignment x y) = Assignment (unplaced_target x) (unplaced_expression y)
unplaced_statement (Null at) = Null no_place
unplaced_statement (Default at x) = Default no_place (unplaced_statement x)
unplaced_statement (Match ls x) = Match (map unplaced_label ls) (unplaced_statement x)
unplaced_statement NoStatement = NoStatement
unplaced_statement (Statements x xs) = Statements (unplaced_statement x) (unplaced_statement xs)

-- ---- declarations

abbrev pub unplaced_range : RangeBounds → RangeBounds
unplaced_range x = record { high = unplaced_expression x.high; low = unplaced_expression x.low }

abbrev pub unplaced_kind : Kind → Kind
unplaced_kind x = record { signed = x.signed; range = option_map unplaced_range x.range }

abbrev pub unplaced_declared : Declared → Declared
unplaced_declared x = record { name = unplaced_name x.name; value = option_map unplaced_expression x.value }

abbrev pub unplaced_declared_reg : DeclaredReg → DeclaredReg
unplaced_declared_reg x = record {
  name = unplaced_name x.name;
  value = option_map unplaced_expression x.value;
  addresses = option_map unplaced_range x.addresses;
}

abbrev pub unplaced_parameter : ParameterAssignment → ParameterAssignment
unplaced_parameter x = record { name = unplaced_name x.name; value = unplaced_expression x.value }

abbrev pub unplaced_header_parameter : HeaderParameterDeclaration → HeaderParameterDeclaration
unplaced_header_parameter x = record { kind = option_map unplaced_kind x.kind; parameter = unplaced_parameter x.parameter }

abbrev pub unplaced_port : PortDeclaration → PortDeclaration
unplaced_port (InputPort at net x n) = InputPort no_place net (unplaced_kind x) (unplaced_name n)
unplaced_port (OutputPort at net x y) = OutputPort no_place net (unplaced_kind x) (unplaced_declared y)
unplaced_port (NextPort x) = NextPort (unplaced_declared x)

abbrev pub unplaced_ports : PortList → PortList
unplaced_ports NoPorts = NoPorts
unplaced_ports (NamedPorts xs) = NamedPorts (map unplaced_name xs)
unplaced_ports (DeclaredPorts xs) = DeclaredPorts (map unplaced_port xs)

-- ---- items

abbrev pub unplaced_by_name : ConnectionByName → ConnectionByName
unplaced_by_name x = record { at = no_place; name = unplaced_name x.name; value = option_map unplaced_expression x.value }

abbrev pub unplaced_by_order : ConnectionByOrder → ConnectionByOrder
unplaced_by_order x = record { at = no_place; value = option_map unplaced_expression x.value }

abbrev pub unplaced_connections : ConnectionList → ConnectionList
unplaced_connections (ByName xs) = ByName (map unplaced_by_name xs)
unplaced_connections (ByOrder xs) = ByOrder (map unplaced_by_order xs)

abbrev pub unplaced_instance : ModuleInstance → ModuleInstance
unplaced_instance x = record { name = unplaced_name x.name; connections = unplaced_connections x.connections }

abbrev pub unplaced_assignment : ContinuousAssignment → ContinuousAssignment
unplaced_assignment x = record { target = unplaced_target x.target; value = unplaced_expression x.value }

abbrev pub unplaced_head : LoopHead → LoopHead
unplaced_head x = record { start = unplaced_parameter x.start; condition = unplaced_expression x.condition; step = unplaced_parameter x.step }

abbrev pub unplaced_item : ModuleItem → ModuleItem
unplaced_item (i.Inputs at net x ns) = i.Inputs no_place net (unplaced_kind x) (map unplaced_name ns)
unplaced_item (i.Outputs at net x ys) = i.Outputs no_place net (unplaced_kind x) (map unplaced_declared ys)
unplaced_item (i.Parameters at x ys) = i.Parameters no_place (unplaced_kind x) (map unplaced_parameter ys)
unplaced_item (i.LocalParameters at x ys) = i.LocalParameters no_place (unplaced_kind x) (map unplaced_parameter ys)
unplaced_item (i.Wires at x ys) = i.Wires no_place (unplaced_kind x) (map unplaced_declared ys)
unplaced_item (i.Regs at x ys) = i.Regs no_place (unplaced_kind x) (map unplaced_declared_reg ys)
unplaced_item (i.Genvars at ns) = i.Genvars no_place (map unplaced_name ns)
unplaced_item (i.Assigns at xs) = i.Assigns no_place (map unplaced_assignment xs)
unplaced_item (i.Combinational at x) = i.Combinational no_place (unplaced_statement x)
unplaced_item (i.Clocked at n x) = i.Clocked no_place (unplaced_name n) (unplaced_statement x)
unplaced_item (i.Instances n x ys) = i.Instances (unplaced_name n) (option_map unplaced_connections x) (map unplaced_instance ys)
unplaced_item (i.Region at xs) = i.Region no_place (unplaced_item xs)
unplaced_item (i.Loop at x n ys) = i.Loop no_place (unplaced_head x) (unplaced_name n) (unplaced_item ys)
unplaced_item (i.Conditional xs) = i.Conditional (unplaced_item xs)
unplaced_item (i.Branch at x n ys) = i.Branch no_place (option_map unplaced_expression x) (unplaced_name n) (unplaced_item ys)
unplaced_item i.NoItem = i.NoItem
unplaced_item (i.Items x xs) = i.Items (unplaced_item x) (unplaced_item xs)

abbrev pub unplaced_declaration : ModuleDeclaration → ModuleDeclaration
unplaced_declaration x = record {
  name = unplaced_name x.name;
  parameters = map unplaced_header_parameter x.parameters;
  ports = unplaced_ports x.ports;
  items = unplaced_item x.items;
}
