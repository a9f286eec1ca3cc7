-- The ports of a module as its instances see them, in the order of its header (IEEE Std 1364-2005, 12.3).
use Rattle.std.specs.Prelude.{ℕ, Bool, false, List, map, Option, Some, None}
use Rattle.verilog_ast.specs.declared.identifier.Identifier.{Identifier}
use Rattle.gen_unroll.specs.Declarations.{declared_width}
use Rattle.elaborate.specs.Tables.{Declaration, Table, declared_as, is_input}

-- a port: its name, whether it is an input, its bits and its sign
pub record PortOutline : Type 0 where
  pub name : ℕ
  pub input : Bool
  pub width : ℕ
  pub signed : Bool

-- a port without a declaration was refused before
abbrev pub outline : Identifier → Option Declaration → PortOutline
outline p None = record { name = p.name.0; input = false; width = 1; signed = false }
outline p (Some d) = record { name = p.name.0; input = is_input d.kind; width = declared_width d.range; signed = d.signed }

abbrev pub port_outline : Table → Identifier → PortOutline
port_outline table p = outline p (declared_as (record { block = None; name = p.name.0 }) table)

abbrev pub port_outlines : (ports : List Identifier) → Table → List PortOutline
port_outlines ports table = map (port_outline table) ports
