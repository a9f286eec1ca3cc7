-- The names that a module declares, each once in its scope (IEEE Std 1364-2005, 12.7), but for a port that the body completes (12.3.3).
use Rattle.std.specs.Prelude.{ℕ, Bool, true, false, ◌&&◌, ◌==◌, if◌then◌else◌, List, [], ◌∷◌, Option, Some, None, Result, Ok, Err}
use Rattle.ls_text.specs.declared.fault.Fault.{Fault}
use Rattle.ls_text.specs.declared.place.Place.{Place}
use Rattle.verilog_ast.specs.declared.identifier.Identifier.{Identifier}
use Rattle.verilog_ast.specs.declared.port_net.PortNet.{PortNet}
use Rattle.verilog_ast.specs.declared.port_net.PortNet.TheVariants as net
use Rattle.verilog_ast.specs.Expressions.{Expression}
use Rattle.width_rules.specs.Faults.{fault_at}
use Rattle.gen_unroll.specs.Declarations.{BitRange}
use Rattle.gen_unroll.specs.Reaches.{same_block}
use Rattle.ls_text.specs.Answers.{◌>>=◌}
use Rattle.elaborate.specs.declared.declaration_kind.DeclarationKind.{DeclarationKind}
use Rattle.elaborate.specs.declared.declaration_kind.DeclarationKind.TheVariants as kind

-- a name and the number of the block that declares it, none for the module itself
pub record NameIn : Type 0 where
  pub block : Option ℕ
  pub name : ℕ

-- what a name is declared as, with its range and its sign, and where
pub record Declaration : Type 0 where
  pub at : Place
  pub kind : DeclarationKind
  pub range : Option BitRange
  pub signed : Bool

-- the names in the order of their declarations
abbrev pub Table : Type 0
Table = List (NameIn × Declaration)

abbrev pub is_same_name : NameIn → NameIn → Bool
is_same_name a b = same_block a.block b.block && (a.name == b.name)

abbrev pub declared_as : NameIn → Table → Option Declaration
declared_as n [] = None
declared_as n (x ∷ xs) = if is_same_name n x.0 then Some x.1 else declared_as n xs

-- a new name goes last, and one that stands there keeps its place
abbrev pub with_declaration : NameIn → Declaration → Table → Table
with_declaration n d [] = (n, d) ∷ []
with_declaration n d (x ∷ xs) = if is_same_name n x.0 then (x.0, d) ∷ xs else x ∷ with_declaration n d xs

-- a name within a block, or within the module itself
abbrev pub name_in : Option ℕ → Identifier → NameIn
name_in here n = record { block = here; name = n.name.0 }

-- ---- declarations

-- a second declaration in one scope (30)
abbrev pub once : Option Declaration → Identifier → Result (Unit {0}) Fault
once None n = Ok tt
once (Some d) n = Err (fault_at 30 n)

unfoldable pub declare : Option ℕ → Identifier → Declaration → Table → Result Table Fault
declare here n d table = once (declared_as (name_in here n) table) n >>= λ _. Ok (with_declaration (name_in here n) d table)

-- ---- ports that the body completes (12.3.3)

abbrev pub is_input : DeclarationKind → Bool
is_input (kind.Input x) = true
is_input other = false

abbrev pub is_port : DeclarationKind → Bool
is_port (kind.Input x) = true
is_port (kind.Output x) = true
is_port other = false

-- a port that was declared without `wire` or `reg`
abbrev pub is_incomplete : DeclarationKind → Bool
is_incomplete (kind.Input net.Nothing) = true
is_incomplete (kind.Output net.Nothing) = true
is_incomplete other = false

abbrev pub same_range : Option BitRange → Option BitRange → Bool
same_range None None = true
same_range None (Some r) = false
same_range (Some r) None = false
same_range (Some r) (Some s) = (r.width == s.width) && (r.low == s.low)

abbrev pub same_sign : Bool → Bool → Bool
same_sign true true = true
same_sign false false = true
same_sign true false = false
same_sign false true = false

-- `wire` or `reg` of a name that is a port of the same bounds and sign
abbrev pub completes : Declaration → Declaration → Bool
completes port d = is_incomplete port.kind && (same_range port.range d.range && same_sign port.signed d.signed)

abbrev pub kind_of_net : PortNet → DeclarationKind
kind_of_net net.Nothing = kind.Wire
kind_of_net net.Wire = kind.Wire
kind_of_net net.Reg = kind.Reg

abbrev pub completed_kind : DeclarationKind → PortNet → DeclarationKind
completed_kind (kind.Input x) net = kind.Input net
completed_kind (kind.Output x) net = kind.Output net
completed_kind other net = other

-- what a name is behind `wire` or `reg`: a second declaration, but for that of a port, is refused with 30
abbrev pub net_over : Option Declaration → Identifier → PortNet → Declaration → Result Declaration Fault
net_over None n by d = Ok d
net_over (Some port) n by d =
    if completes port d then Ok (record port { kind = completed_kind port.kind by }) else Err (fault_at 30 n)

-- an initial value on an input (33)
abbrev pub initial : Option Expression → Identifier → DeclarationKind → Result (Unit {0}) Fault
initial None n k = Ok tt
initial (Some e) n k = if is_input k then Err (fault_at 33 n) else Ok tt

unfoldable pub declare_net : Option ℕ → Identifier → PortNet → Declaration → Option Expression → Table → Result Table Fault
declare_net here n by d value table =
    net_over (declared_as (name_in here n) table) n by d
    >>= λ x. initial value n x.kind
    >>= λ _. Ok (with_declaration (name_in here n) x table)
