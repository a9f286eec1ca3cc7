-- The item of a connection by its parts.
use Rattle.std.specs.Prelude.{List, []}
use Rattle.ls_text.specs.declared.place.Place.{Place}
use Rattle.typed_ir.specs.declared.mention.Mention.{Mention}
use Rattle.typed_ir.specs.Items.{PlacedItem, Node}
use Rattle.typed_ir.specs.Trees.{UnitNode}

abbrev pub connection_with : UnitNode → List Mention → Place → PlacedItem
connection_with node targets at = record { body = Node node; at = at; targets = targets; reads = [] }
