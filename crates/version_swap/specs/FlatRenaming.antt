-- The copies of a design and its flat design under other names: what each name's number becomes is told by a function.
use Rattle.std.specs.Prelude.{map}
use Rattle.std.specs.Option.{option_map}
use Rattle.ls_text.specs.declared.name_id.NameId.{NameId}
use Rattle.typed_ir.specs.Cycles.{Flat}
use Rattle.verilog_ast.specs.Renaming.{declaration_as}
use Rattle.elaborate.specs.Renaming.{SpellsSame, number_as, step_as}
use Rattle.version_swap.specs.RenamedFindings.{table_as, shape_as, unit_signal_as}
use Rattle.version_swap.specs.Copies.{ModuleCopy, Copies, Nothing, One}
use Rattle.version_swap.specs.DesignCopies.{NameTables}

abbrev pub copy_as : (NameId → NameId) → ModuleCopy → ModuleCopy
copy_as f c = record {
  name = number_as f c.name;
  declaration = declaration_as f c.declaration;
  steps = map (step_as f) c.steps;
  table = table_as f c.table;
  clock = option_map f c.clock;
  children = map (shape_as f) c.children;
  names = map f c.names;
}

abbrev pub copies_as : (NameId → NameId) → Copies → Copies
copies_as f Nothing = Nothing
copies_as f (One c within after) = One (copy_as f c) (copies_as f within) (copies_as f after)

-- signals have the names of their modules and paths, all else of a design has numbers
abbrev pub flat_as : (NameId → NameId) → Flat → Flat
flat_as f d = record d { signals = map (unit_signal_as f) d.signals }

-- each name has in the second tables, under its other number, the text that it has in the first
pub record SpellAllSame (f : NameId → NameId) (t u : NameTables) : Type 0 where
  pub texts : SpellsSame f t.texts u.texts
  pub known : SpellsSame f t.known u.known
  pub others : SpellsSame f t.others u.others
  pub words : SpellsSame f t.words u.words
