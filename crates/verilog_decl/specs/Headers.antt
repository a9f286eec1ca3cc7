-- Which header of a module stands for which tokens (IEEE 1364-2005, parameters of a module clause 12.2, ports 12.3).
use Rattle.std.specs.Prelude.{◌≢◌, ◌≡◌, List, [], ◌∷◌, Some, None}
use Rattle.verilog_lex.specs.declared.token.Token.{Token}
use Rattle.verilog_lex.specs.declared.kind.Kind.TheVariants as k
use Rattle.verilog_ast.specs.declared.identifier.Identifier.{Identifier}
use Rattle.verilog_ast.specs.declared.shape.Shape.{Shape}
use Rattle.verilog_ast.specs.declared.variable.Variable.{Variable}
use Rattle.verilog_ast.specs.declared.parameter.Parameter.{Parameter}
use Rattle.verilog_ast.specs.declared.port_net.PortNet.{PortNet}
use Rattle.verilog_ast.specs.declared.header_parameter.HeaderParameter.{HeaderParameter}
use Rattle.verilog_ast.specs.declared.header_port.HeaderPort.{HeaderPort}
use Rattle.verilog_ast.specs.declared.header_port.HeaderPort.TheVariants as port
use Rattle.verilog_ast.specs.declared.ports.Ports.{Ports}
use Rattle.verilog_ast.specs.declared.ports.Ports.TheVariants as ports
use Rattle.verilog_expr.specs.Tokens.{next, Takes, identifier_of}
use Rattle.verilog_decl.specs.Declarations as declarations

pub data Phrase : Type 0 where
  -- what follows a module's name
  AHeader : List HeaderParameter → Ports → Phrase
  ParameterHeader : List HeaderParameter → Phrase
  AShapedParameter : HeaderParameter → Phrase
  AHeaderParameter : HeaderParameter → Phrase
  -- the first, and further ones, which stand here
  HeaderParametersBehind : HeaderParameter → List HeaderParameter → Phrase
  OtherHeaderParameters : List HeaderParameter → Phrase
  PortHeader : Ports → Phrase
  PortList : Ports → Phrase
  DeclaredPorts : List HeaderPort → Phrase
  HeaderPortsBehind : HeaderPort → List HeaderPort → Phrase
  OtherHeaderPorts : List HeaderPort → Phrase
  AHeaderPort : HeaderPort → Phrase
  NextHeaderPort : HeaderPort → Phrase

-- The phrase stands at the front of the first tokens, and the second are left. An option or repetition is
-- taken where the next token can begin it.
pub data Spells : Phrase → List Token → List Token → Type 0 where
  header : {xs : List HeaderParameter} {y : Ports} {s a b r : List Token} {t : Token}
      → Spells (ParameterHeader xs) s a
      → Spells (PortHeader y) a b
      → Takes k.Semicolon b r t
      → Spells (AHeader xs y) s r
  no_parameters : {s : List Token}
      → next s ≢ k.Hash
      → Spells (ParameterHeader []) s s
  some_parameters : {x : HeaderParameter} {xs : List HeaderParameter} {s a b c d r : List Token} {t u v : Token}
      → Takes k.Hash s a t
      → Takes k.LeftParen a b u
      → Spells (AShapedParameter x) b c
      → Spells (HeaderParametersBehind x xs) c d
      → Takes k.RightParen d r v
      → Spells (ParameterHeader xs) s r
  shaped : {x : Shape} {y : Parameter} {s a b r : List Token} {t : Token}
      → Takes k.Parameter s a t
      → declarations.Spells (declarations.AShape x) a b
      → declarations.Spells (declarations.AParameter y) b r
      → Spells (AShapedParameter (record { shape = Some x; parameter = y })) s r
  with_shape : {x : HeaderParameter} {s r : List Token}
      → k.Parameter ≡ next s
      → Spells (AShapedParameter x) s r
      → Spells (AHeaderParameter x) s r
  without_shape : {y : Parameter} {s r : List Token}
      → next s ≢ k.Parameter
      → declarations.Spells (declarations.AParameter y) s r
      → Spells (AHeaderParameter (record { shape = None; parameter = y })) s r
  header_parameters_behind : {x : HeaderParameter} {xs : List HeaderParameter} {s r : List Token}
      → Spells (OtherHeaderParameters xs) s r
      → Spells (HeaderParametersBehind x (x ∷ xs)) s r
  no_header_parameter : {s : List Token}
      → next s ≢ k.Comma
      → Spells (OtherHeaderParameters []) s s
  another_header_parameter : {x : HeaderParameter} {xs : List HeaderParameter} {s a b r : List Token} {t : Token}
      → Takes k.Comma s a t
      → Spells (AHeaderParameter x) a b
      → Spells (OtherHeaderParameters xs) b r
      → Spells (OtherHeaderParameters (x ∷ xs)) s r
  no_ports : {s : List Token}
      → next s ≢ k.LeftParen
      → Spells (PortHeader ports.Nothing) s s
  some_ports : {x : Ports} {s a b r : List Token} {t u : Token}
      → Takes k.LeftParen s a t
      → Spells (PortList x) a b
      → Takes k.RightParen b r u
      → Spells (PortHeader x) s r
  empty_list : {s : List Token}
      → next s ≢ k.Word
      → next s ≢ k.Input
      → next s ≢ k.Output
      → Spells (PortList ports.Nothing) s s
  name_list : {xs : List Identifier} {s r : List Token}
      → k.Word ≡ next s
      → declarations.Spells (declarations.Names xs) s r
      → Spells (PortList (ports.Names xs)) s r
  input_list : {xs : List HeaderPort} {s r : List Token}
      → k.Input ≡ next s
      → Spells (DeclaredPorts xs) s r
      → Spells (PortList (ports.Declarations xs)) s r
  output_list : {xs : List HeaderPort} {s r : List Token}
      → k.Output ≡ next s
      → Spells (DeclaredPorts xs) s r
      → Spells (PortList (ports.Declarations xs)) s r
  declared : {x : HeaderPort} {xs : List HeaderPort} {s a r : List Token}
      → Spells (AHeaderPort x) s a
      → Spells (HeaderPortsBehind x xs) a r
      → Spells (DeclaredPorts xs) s r
  header_ports_behind : {x : HeaderPort} {xs : List HeaderPort} {s r : List Token}
      → Spells (OtherHeaderPorts xs) s r
      → Spells (HeaderPortsBehind x (x ∷ xs)) s r
  no_header_port : {s : List Token}
      → next s ≢ k.Comma
      → Spells (OtherHeaderPorts []) s s
  another_header_port : {x : HeaderPort} {xs : List HeaderPort} {s a b r : List Token} {t : Token}
      → Takes k.Comma s a t
      → Spells (NextHeaderPort x) a b
      → Spells (OtherHeaderPorts xs) b r
      → Spells (OtherHeaderPorts (x ∷ xs)) s r
  input_port : {x : PortNet} {y : Shape} {s a b c r : List Token} {t u : Token}
      → Takes k.Input s a t
      → declarations.Spells (declarations.OptionalWire x) a b
      → declarations.Spells (declarations.AShape y) b c
      → Takes k.Word c r u
      → Spells (AHeaderPort (port.Input t.at x y (identifier_of u))) s r
  output_port : {x : PortNet} {y : Shape} {z : Variable} {s a b c r : List Token} {t : Token}
      → Takes k.Output s a t
      → declarations.Spells (declarations.OptionalNet x) a b
      → declarations.Spells (declarations.AShape y) b c
      → declarations.Spells (declarations.AVariable z) c r
      → Spells (AHeaderPort (port.Output t.at x y z)) s r
  next_name : {x : Variable} {s r : List Token}
      → k.Word ≡ next s
      → declarations.Spells (declarations.AVariable x) s r
      → Spells (NextHeaderPort (port.Next x)) s r
  next_port : {x : HeaderPort} {s r : List Token}
      → next s ≢ k.Word
      → Spells (AHeaderPort x) s r
      → Spells (NextHeaderPort x) s r
