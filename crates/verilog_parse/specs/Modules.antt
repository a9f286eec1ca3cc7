-- Which module stands for which tokens (IEEE 1364-2005, clause 12.1; its header stands in `Headers` of verilog_decl).
use Rattle.std.specs.Prelude.{◌≡◌, ◌≢◌, List, [], ◌∷◌, true, false}
use Rattle.verilog_lex.specs.declared.token.Token.{Token}
use Rattle.verilog_lex.specs.declared.kind.Kind.TheVariants as k
use Rattle.verilog_ast.specs.declared.identifier.Identifier.{Identifier}
use Rattle.verilog_ast.specs.declared.shape.Shape.{Shape}
use Rattle.verilog_ast.specs.declared.variable.Variable.{Variable}
use Rattle.verilog_ast.specs.declared.parameter.Parameter.{Parameter}
use Rattle.verilog_ast.specs.declared.port_net.PortNet.{PortNet}
use Rattle.verilog_ast.specs.declared.header_parameter.HeaderParameter.{HeaderParameter}
use Rattle.verilog_ast.specs.declared.ports.Ports.{Ports}
use Rattle.verilog_ast.specs.declared.generate_item.GenerateItem.{GenerateItem}
use Rattle.verilog_ast.specs.declared.item.Item.{Item}
use Rattle.verilog_ast.specs.declared.item.Item.TheVariants as item
use Rattle.verilog_ast.specs.declared.module_body.ModuleBody.{ModuleBody}
use Rattle.verilog_expr.specs.Tokens.{next, Takes, identifier_of}
use Rattle.verilog_expr.specs.Grammar.{begins_item}
use Rattle.verilog_decl.specs.Declarations as declarations
use Rattle.verilog_decl.specs.Headers as headers
use Rattle.verilog_parse.specs.Generates as generates

pub data Phrase : Type 0 where
  AModule : ModuleBody → Phrase
  Items : List Item → Phrase
  AnItem : Item → Phrase

-- The phrase stands at the front of the first tokens, and the second are left. An option or repetition is
-- taken where the next token can begin it.
pub data Spells : Phrase → List Token → List Token → Type 0 where
  module_ : {xs : List HeaderParameter} {y : Ports} {zs : List Item} {s a b c d r : List Token} {t u v : Token}
      → Takes k.Module s a t
      → Takes k.Word a b u
      → headers.Spells (headers.AHeader xs y) b c
      → Spells (Items zs) c d
      → Takes k.EndModule d r v
      → Spells (AModule (record { name = identifier_of u; parameters = xs; ports = y; items = zs })) s r
  no_item : {s : List Token}
      → begins_item (next s) ≡ false
      → Spells (Items []) s s
  another_item : {x : Item} {xs : List Item} {s a r : List Token}
      → begins_item (next s) ≡ true
      → Spells (AnItem x) s a
      → Spells (Items xs) a r
      → Spells (Items (x ∷ xs)) s r
  input_item : {x : PortNet} {y : Shape} {zs : List Identifier} {s a b c d r : List Token} {t u : Token}
      → Takes k.Input s a t
      → declarations.Spells (declarations.OptionalWire x) a b
      → declarations.Spells (declarations.AShape y) b c
      → declarations.Spells (declarations.Names zs) c d
      → Takes k.Semicolon d r u
      → Spells (AnItem (item.Input t.at x y zs)) s r
  output_item : {x : PortNet} {y : Shape} {zs : List Variable} {s a b c d r : List Token} {t u : Token}
      → Takes k.Output s a t
      → declarations.Spells (declarations.OptionalNet x) a b
      → declarations.Spells (declarations.AShape y) b c
      → declarations.Spells (declarations.Variables zs) c d
      → Takes k.Semicolon d r u
      → Spells (AnItem (item.Output t.at x y zs)) s r
  parameter_item : {y : Shape} {zs : List Parameter} {s a b c r : List Token} {t u : Token}
      → Takes k.Parameter s a t
      → declarations.Spells (declarations.AShape y) a b
      → declarations.Spells (declarations.Parameters zs) b c
      → Takes k.Semicolon c r u
      → Spells (AnItem (item.Parameter t.at y zs)) s r
  region : {xs : List GenerateItem} {s a b r : List Token} {t u : Token}
      → Takes k.Generate s a t
      → generates.Spells (generates.GenerateItems xs) a b
      → Takes k.EndGenerate b r u
      → Spells (AnItem (item.Region t.at xs)) s r
  other_item : {x : GenerateItem} {s r : List Token}
      → next s ≢ k.Input
      → next s ≢ k.Output
      → next s ≢ k.Parameter
      → next s ≢ k.Generate
      → generates.Spells (generates.AGenerateItem x) s r
      → Spells (AnItem (item.Item x)) s r
