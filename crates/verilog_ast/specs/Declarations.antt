-- Declarations as plain data (IEEE 1364-2005, clauses 4.2, 4.3, 4.10 and 12.3).
use Rattle.std.specs.Prelude.{Bool, List, Option}
use Rattle.ls_text.specs.declared.place.Place.{Place}
use Rattle.verilog_ast.specs.declared.identifier.Identifier.{Identifier}
use Rattle.verilog_ast.specs.declared.port_net.PortNet.{PortNet}
use Rattle.verilog_ast.specs.declared.port_net.PortNet.TheVariants as net
use Rattle.verilog_ast.specs.Expressions.{Expression}

-- `[high:low]`
pub record RangeBounds : Type 0 where
  pub high : Expression
  pub low : Expression

-- the sign and the range of a declaration
pub record Kind : Type 0 where
  pub signed : Bool
  pub range : Option RangeBounds

-- a declared net, or a variable of a port, with its value or without
pub record Declared : Type 0 where
  pub name : Identifier
  pub value : Option Expression

-- a name declared by `reg`, which may have an address range
pub record DeclaredReg : Type 0 where
  pub name : Identifier
  pub value : Option Expression
  pub addresses : Option RangeBounds

pub record ParameterAssignment : Type 0 where
  pub name : Identifier
  pub value : Expression

abbrev pub assigned_name : ParameterAssignment → Identifier
assigned_name p = p.name

-- a parameter of a header; without a kind it has that of the one before
pub record HeaderParameterDeclaration : Type 0 where
  pub kind : Option Kind
  pub parameter : ParameterAssignment

abbrev pub header_parameter_name : HeaderParameterDeclaration → Identifier
header_parameter_name p = p.parameter.name

-- a port of a header that declares its ports; a further name has the declaration of the port before
pub data PortDeclaration : Type 0 where
  InputPort : (at : Place) (net : PortNet) (kind : Kind) (name : Identifier) → PortDeclaration
  OutputPort : (at : Place) (net : PortNet) (kind : Kind) (declared : Declared) → PortDeclaration
  NextPort : (declared : Declared) → PortDeclaration

-- the ports of a header, in their order
pub data PortList : Type 0 where
  NoPorts : PortList
  NamedPorts : (names : List Identifier) → PortList
  DeclaredPorts : (ports : List PortDeclaration) → PortList

-- a port that the header declares is complete
abbrev pub header_net : PortNet → PortNet
header_net net.Nothing = net.Wire
header_net net.Wire = net.Wire
header_net net.Reg = net.Reg
