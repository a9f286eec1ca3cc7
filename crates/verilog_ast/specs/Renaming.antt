-- Plain trees under other names: what each name's number becomes is told by a function, and all else stays.
use Rattle.std.specs.Prelude.{map}
use Rattle.std.specs.Option.{option_map}
use Rattle.ls_text.specs.declared.name_id.NameId.{NameId}
use Rattle.verilog_ast.specs.Renamed.{renamed_identifier}
use Rattle.verilog_ast.specs.Expressions.{Expression, Literal, Whole, BitSelect, PartSelect, UpwardSelect, DownwardSelect, Unary, Binary, Conditional, Concatenation, Replication, Bracketed, NoPart, Parts, Target, Reference, Joined, NoTarget, Targets}
use Rattle.verilog_ast.specs.Statements.{CaseLabel, DontCare, Compared, Statement, Block, If, IfElse, Case, Assignment, Null, Default, Match, NoStatement, Statements}
use Rattle.verilog_ast.specs.Declarations.{RangeBounds, Kind, Declared, DeclaredReg, ParameterAssignment, HeaderParameterDeclaration, PortDeclaration, InputPort, OutputPort, NextPort, PortList, NoPorts, NamedPorts, DeclaredPorts}
use Rattle.verilog_ast.specs.Items as i
use Rattle.verilog_ast.specs.Items.{ConnectionByName, ConnectionByOrder, ConnectionList, ByName, ByOrder, ModuleInstance, ContinuousAssignment, LoopHead, ModuleItem, ModuleDeclaration}

-- ---- expressions

abbrev pub expression_as : (NameId → NameId) → Expression → Expression
expression_as f (Literal at x) = Literal at x
expression_as f (Whole n) = Whole (renamed_identifier f n)
expression_as f (BitSelect n x) = BitSelect (renamed_identifier f n) (expression_as f x)
expression_as f (PartSelect n x y) = PartSelect (renamed_identifier f n) (expression_as f x) (expression_as f y)
expression_as f (UpwardSelect n x y) = UpwardSelect (renamed_identifier f n) (expression_as f x) (expression_as f y)
expression_as f (DownwardSelect n x y) = DownwardSelect (renamed_identifier f n) (expression_as f x) (expression_as f y)
expression_as f (Unary at op x) = Unary at op (expression_as f x)
expression_as f (Binary op x y) = Binary op (expression_as f x) (expression_as f y)
expression_as f (Conditional x y z) = Conditional (expression_as f x) (expression_as f y) (expression_as f z)
expression_as f (Concatenation at xs) = Concatenation at (expression_as f xs)
expression_as f (Replication at x ys) = Replication at (expression_as f x) (expression_as f ys)
expression_as f (Bracketed at x) = Bracketed at (expression_as f x)
expression_as f NoPart = NoPart
expression_as f (Parts x xs) = Parts (expression_as f x) (expression_as f xs)

abbrev pub target_as : (NameId → NameId) → Target → Target
target_as f (Reference x) = Reference (expression_as f x)
target_as f (Joined at xs) = Joined at (target_as f xs)
target_as f NoTarget = NoTarget
target_as f (Targets x xs) = Targets (target_as f x) (target_as f xs)

-- ---- statements

abbrev pub label_as : (NameId → NameId) → CaseLabel → CaseLabel
label_as f (DontCare at x) = DontCare at x
label_as f (Compared x) = Compared (expression_as f x)

abbrev pub statement_as : (NameId → NameId) → Statement → Statement
statement_as f (Block at l xs) = Block at (option_map (renamed_identifier f) l) (statement_as f xs)
statement_as f (If at x y) = If at (expression_as f x) (statement_as f y)
statement_as f (IfElse at x y z) = IfElse at (expression_as f x) (statement_as f y) (statement_as f z)
statement_as f (Case at which x ys) = Case at which (expression_as f x) (statement_as f ys)
statement_as f (Assignment x y) = Assignment (target_as f x) (expression_as f y)
statement_as f (Null at) = Null at
statement_as f (Default at x) = Default at (statement_as f x)
statement_as f (Match ls x) = Match (map (label_as f) ls) (statement_as f x)
statement_as f NoStatement = NoStatement
statement_as f (Statements x xs) = Statements (statement_as f x) (statement_as f xs)

-- ---- declarations

abbrev pub range_as : (NameId → NameId) → RangeBounds → RangeBounds
range_as f x = record { high = expression_as f x.high; low = expression_as f x.low }

abbrev pub kind_as : (NameId → NameId) → Kind → Kind
kind_as f x = record { signed = x.signed; range = option_map (range_as f) x.range }

abbrev pub declared_as : (NameId → NameId) → Declared → Declared
declared_as f x = record { name = renamed_identifier f x.name; value = option_map (expression_as f) x.value }

abbrev pub declared_reg_as : (NameId → NameId) → DeclaredReg → DeclaredReg
declared_reg_as f x = record {
  name = renamed_identifier f x.name;
  value = option_map (expression_as f) x.value;
  addresses = option_map (range_as f) x.addresses;
}

abbrev pub parameter_as : (NameId → NameId) → ParameterAssignment → ParameterAssignment
parameter_as f x = record { name = renamed_identifier f x.name; value = expression_as f x.value }

abbrev pub header_parameter_as : (NameId → NameId) → HeaderParameterDeclaration → HeaderParameterDeclaration
header_parameter_as f x = record { kind = option_map (kind_as f) x.kind; parameter = parameter_as f x.parameter }

abbrev pub port_as : (NameId → NameId) → PortDeclaration → PortDeclaration
port_as f (InputPort at net x n) = InputPort at net (kind_as f x) (renamed_identifier f n)
port_as f (OutputPort at net x y) = OutputPort at net (kind_as f x) (declared_as f y)
port_as f (NextPort x) = NextPort (declared_as f x)

abbrev pub ports_as : (NameId → NameId) → PortList → PortList
ports_as f NoPorts = NoPorts
ports_as f (NamedPorts xs) = NamedPorts (map (renamed_identifier f) xs)
ports_as f (DeclaredPorts xs) = DeclaredPorts (map (port_as f) xs)

-- ---- items

abbrev pub by_name_as : (NameId → NameId) → ConnectionByName → ConnectionByName
by_name_as f x = record { at = x.at; name = renamed_identifier f x.name; value = option_map (expression_as f) x.value }

abbrev pub by_order_as : (NameId → NameId) → ConnectionByOrder → ConnectionByOrder
by_order_as f x = record { at = x.at; value = option_map (expression_as f) x.value }

abbrev pub connections_as : (NameId → NameId) → ConnectionList → ConnectionList
connections_as f (ByName xs) = ByName (map (by_name_as f) xs)
connections_as f (ByOrder xs) = ByOrder (map (by_order_as f) xs)

abbrev pub instance_as : (NameId → NameId) → ModuleInstance → ModuleInstance
instance_as f x = record { name = renamed_identifier f x.name; connections = connections_as f x.connections }

abbrev pub assignment_as : (NameId → NameId) → ContinuousAssignment → ContinuousAssignment
assignment_as f x = record { target = target_as f x.target; value = expression_as f x.value }

abbrev pub head_as : (NameId → NameId) → LoopHead → LoopHead
head_as f x = record { start = parameter_as f x.start; condition = expression_as f x.condition; step = parameter_as f x.step }

abbrev pub item_as : (NameId → NameId) → ModuleItem → ModuleItem
item_as f (i.Inputs at net x ns) = i.Inputs at net (kind_as f x) (map (renamed_identifier f) ns)
item_as f (i.Outputs at net x ys) = i.Outputs at net (kind_as f x) (map (declared_as f) ys)
item_as f (i.Parameters at x ys) = i.Parameters at (kind_as f x) (map (parameter_as f) ys)
item_as f (i.LocalParameters at x ys) = i.LocalParameters at (kind_as f x) (map (parameter_as f) ys)
item_as f (i.Wires at x ys) = i.Wires at (kind_as f x) (map (declared_as f) ys)
item_as f (i.Regs at x ys) = i.Regs at (kind_as f x) (map (declared_reg_as f) ys)
item_as f (i.Genvars at ns) = i.Genvars at (map (renamed_identifier f) ns)
item_as f (i.Assigns at xs) = i.Assigns at (map (assignment_as f) xs)
item_as f (i.Combinational at x) = i.Combinational at (statement_as f x)
item_as f (i.Clocked at n x) = i.Clocked at (renamed_identifier f n) (statement_as f x)
item_as f (i.Instances n x ys) = i.Instances (renamed_identifier f n) (option_map (connections_as f) x) (map (instance_as f) ys)
item_as f (i.Region at xs) = i.Region at (item_as f xs)
item_as f (i.Loop at x n ys) = i.Loop at (head_as f x) (renamed_identifier f n) (item_as f ys)
item_as f (i.Conditional xs) = i.Conditional (item_as f xs)
item_as f (i.Branch at x n ys) = i.Branch at (option_map (expression_as f) x) (renamed_identifier f n) (item_as f ys)
item_as f i.NoItem = i.NoItem
item_as f (i.Items x xs) = i.Items (item_as f x) (item_as f xs)

abbrev pub declaration_as : (NameId → NameId) → ModuleDeclaration → ModuleDeclaration
declaration_as f x = record {
  name = renamed_identifier f x.name;
  parameters = map (header_parameter_as f) x.parameters;
  ports = ports_as f x.ports;
  items = item_as f x.items;
}
