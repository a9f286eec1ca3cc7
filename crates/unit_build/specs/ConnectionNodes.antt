-- The node of a connection, and its item (IEEE Std 1364-2005, 5.4.1, 5.5, 12.3.9): it is a continuous assignment, of an input to its port,
-- of an output from it.
use Rattle.std.specs.Prelude.{ℕ, max, if◌then◌else◌, List, [], ◌∷◌, Option, Some, None}
use Rattle.typed_ir.specs.declared.lane.Lane.{Lane}
use Rattle.typed_ir.specs.declared.target_form.TargetForm.TheVariants as form
use Rattle.typed_ir.specs.Sized.{Sized, Name}
use Rattle.typed_ir.specs.declared.mention.Mention.{Mention}
use Rattle.typed_ir.specs.Trees.{UnitNode, Into, From}
use Rattle.typed_ir.specs.Items.{PlacedItem, Node}
use Rattle.verilog_ast.specs.Expressions.{Target, NoTarget}
use Rattle.verilog_ast.specs.Places.{expression_place}
use Rattle.width_rules.specs.Scopes.{Scope}
use Rattle.width_rules.specs.Sizes.{extended}
use Rattle.statement_rules.specs.Statements.{assigned}
use Rattle.statement_rules.specs.Targets.{target_length, parts}
use Rattle.unit_build.specs.Connections.{Connected}
use Rattle.typed_ir.specs.Nodes.{known_lanes}
use Rattle.unit_build.specs.Outputs.{as_target, output_form, output_mentions}

abbrev pub target_or_none : Option Target → Target
target_or_none None = NoTarget
target_or_none (Some t) = t

-- what an output drives
abbrev pub driven_by : Connected → Target
driven_by c = target_or_none (as_target c.value)

-- all bits of its port
abbrev pub port_lane : Connected → Lane
port_lane c = record { shift = 0; span = record { signal = c.port; low = 0; width = c.shape.width } }

-- at the larger of its own width and its target's, by its own sign
abbrev pub port_value : Connected → (width : ℕ) → Sized
port_value c width = extended (Name c.port c.shape.width) (max width c.shape.width) c.shape.signed

abbrev pub input_node : Scope → ℕ → Connected → UnitNode
input_node scope child c = Into child form.Name (port_lane c ∷ []) (assigned scope c.shape.width c.value)

abbrev pub output_node : Scope → ℕ → Connected → Target → UnitNode
output_node scope child c t = From child (output_form t) (known_lanes (parts scope 0 t)) (port_value c (target_length scope t))

abbrev pub connection_node : Scope → ℕ → Connected → UnitNode
connection_node scope child c = if c.shape.input then input_node scope child c else output_node scope child c (driven_by c)

-- an input has no target in its module
abbrev pub connected_mentions : Connected → List Mention
connected_mentions c = if c.shape.input then [] else output_mentions c.value

abbrev pub item_with : UnitNode → List Mention → Connected → PlacedItem
item_with node targets c = record { body = Node node; at = expression_place c.value; targets = targets; reads = [] }

abbrev pub connection_item : Scope → ℕ → Connected → PlacedItem
connection_item scope child c = item_with (connection_node scope child c) (connected_mentions c) c
