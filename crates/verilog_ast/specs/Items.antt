-- Items of modules as plain data (IEEE 1364-2005, clauses 6.1, 9.9, 12.1 and 12.4).
use Rattle.std.specs.Prelude.{List, Option}
use Rattle.ls_text.specs.declared.place.Place.{Place}
use Rattle.verilog_ast.specs.declared.identifier.Identifier.{Identifier}
use Rattle.verilog_ast.specs.declared.port_net.PortNet.{PortNet}
use Rattle.verilog_ast.specs.Expressions.{Expression, Target}
use Rattle.verilog_ast.specs.Statements.{Statement}
use Rattle.verilog_ast.specs.Declarations.{Kind, Declared, DeclaredReg, ParameterAssignment, HeaderParameterDeclaration, PortList}

-- `.name(value)`
pub record ConnectionByName : Type 0 where
  pub at : Place
  pub name : Identifier
  pub value : Option Expression

pub record ConnectionByOrder : Type 0 where
  pub at : Place
  pub value : Option Expression

-- the connections of ports, or the overrides of parameters
pub data ConnectionList : Type 0 where
  ByName : (connections : List ConnectionByName) → ConnectionList
  ByOrder : (connections : List ConnectionByOrder) → ConnectionList

pub record ModuleInstance : Type 0 where
  pub name : Identifier
  pub connections : ConnectionList

-- `target = value` of a continuous assignment
pub record ContinuousAssignment : Type 0 where
  pub target : Target
  pub value : Expression

-- the start, the condition and the step of a generate loop
pub record LoopHead : Type 0 where
  pub start : ParameterAssignment
  pub condition : Expression
  pub step : ParameterAssignment

pub data ModuleItem : Type 0 where
  Inputs : (at : Place) (net : PortNet) (kind : Kind) (names : List Identifier) → ModuleItem
  Outputs : (at : Place) (net : PortNet) (kind : Kind) (ports : List Declared) → ModuleItem
  Parameters : (at : Place) (kind : Kind) (parameters : List ParameterAssignment) → ModuleItem
  LocalParameters : (at : Place) (kind : Kind) (parameters : List ParameterAssignment) → ModuleItem
  Wires : (at : Place) (kind : Kind) (nets : List Declared) → ModuleItem
  Regs : (at : Place) (kind : Kind) (regs : List DeclaredReg) → ModuleItem
  Genvars : (at : Place) (names : List Identifier) → ModuleItem
  Assigns : (at : Place) (assignments : List ContinuousAssignment) → ModuleItem
  -- `always @*`, and `always @(posedge clock)`
  Combinational : (at : Place) (body : Statement) → ModuleItem
  Clocked : (at : Place) (clock : Identifier) (body : Statement) → ModuleItem
  -- the module's name, the overrides where `#` stands, and the instances
  Instances : (instantiated : Identifier) (overrides : Option ConnectionList) (instances : List ModuleInstance) → ModuleItem
  -- `generate .. endgenerate`
  Region : (at : Place) (items : ModuleItem) → ModuleItem
  Loop : (at : Place) (head : LoopHead) (label : Identifier) (items : ModuleItem) → ModuleItem
  -- the branches of an `if`, each but a last `else` with its condition
  Conditional : (branches : ModuleItem) → ModuleItem
  Branch : (at : Place) (condition : Option Expression) (label : Identifier) (items : ModuleItem) → ModuleItem
  -- items or branches, one after another
  NoItem : ModuleItem
  Items : (first rest : ModuleItem) → ModuleItem

pub record ModuleDeclaration : Type 0 where
  pub name : Identifier
  pub parameters : List HeaderParameterDeclaration
  pub ports : PortList
  pub items : ModuleItem
