-- The sized items of a module step by step, in the order of its text, and what may be wrong with them (IEEE Std 1364-2005, 12.1.2, 12.4).
use Rattle.std.specs.Prelude.{ℕ, ◌+◌, List, [], ◌∷◌, ◌++◌, map, length, take, drop}
use Rattle.ls_text.specs.declared.fault.Fault.{Fault}
use Rattle.typed_ir.specs.declared.child_shape.ChildShape.{ChildShape}
use Rattle.typed_ir.specs.Items.{PlacedItem}
use Rattle.verilog_ast.specs.Items as i
use Rattle.verilog_ast.specs.Items.{ModuleItem, ModuleInstance}
use Rattle.width_rules.specs.declared.writer.Writer.{Writer}
use Rattle.width_rules.specs.Scopes.{Scope}
use Rattle.gen_unroll.specs.Reaches.{Reach}
use Rattle.gen_unroll.specs.Steps.{ModuleStep, Listed, Port, Parameter, Item, Labelled, Opened, Closed}
use Rattle.gen_unroll.specs.Signals.{NamedSignal}
use Rattle.gen_unroll.specs.UnitReaches.{unit_in_reach}
use Rattle.unit_build.specs.Instances.{item_faults, instance_items}
use Rattle.statement_rules.specs.DeclaredValues.{InitialValue, port_values, declaration_faults, declaration_initials}
use Rattle.statement_rules.specs.SizedItems.{value_item, plain_items, plain_initials, plain_faults}

-- ---- instances, and their shapes among those that are left

abbrev pub instances_in : ModuleItem → List ModuleInstance
instances_in (i.Instances n overrides xs) = xs
instances_in other = []

abbrev pub shapes_of : List ChildShape → ModuleItem → List ChildShape
shapes_of left x = take (length (instances_in x)) left

abbrev pub shapes_behind : List ChildShape → ModuleItem → List ChildShape
shapes_behind left x = drop (length (instances_in x)) left

-- ---- one step

abbrev pub step_faults : Scope → (left : List ChildShape) → ModuleStep → List Fault
step_faults scope left (Listed n) = []
step_faults scope left (Port p) = declaration_faults scope (port_values p)
step_faults scope left (Parameter s n v) = []
step_faults scope left (Item x) = plain_faults scope x ++ item_faults scope (shapes_of left x) (instances_in x)
step_faults scope left (Labelled n) = []
step_faults scope left (Opened b items) = []
step_faults scope left Closed = []

-- the instances of the step are numbered from `child` on
abbrev pub step_items : Scope → (child : ℕ) → (left : List ChildShape) → ModuleStep → List PlacedItem
step_items scope child left (Listed n) = []
step_items scope child left (Port p) = map (value_item scope) (port_values p)
step_items scope child left (Parameter s n v) = []
step_items scope child left (Item x) = plain_items scope x ++ instance_items scope child (shapes_of left x) (instances_in x)
step_items scope child left (Labelled n) = []
step_items scope child left (Opened b items) = []
step_items scope child left Closed = []

-- what its declarations give at the beginning
abbrev pub step_initials : Scope → ModuleStep → List InitialValue
step_initials scope (Listed n) = []
step_initials scope (Port p) = declaration_initials scope (port_values p)
step_initials scope (Parameter s n v) = []
step_initials scope (Item x) = plain_initials scope x
step_initials scope (Labelled n) = []
step_initials scope (Opened b items) = []
step_initials scope Closed = []

-- ---- all steps: the names in reach, the number of the next instance, and the shapes that are left

pub record Walk : Type 0 where
  pub here : Reach
  pub child : ℕ
  pub left : List ChildShape

abbrev pub passed : List ChildShape → ModuleStep → List ChildShape
passed left (Item x) = shapes_of left x
passed left other = []

abbrev pub remaining : List ChildShape → ModuleStep → List ChildShape
remaining left (Item x) = shapes_behind left x
remaining left other = left

-- behind a step, where w says what may write each of these signals
abbrev pub behind : (w : ℕ → Writer) → List NamedSignal → ModuleStep → Walk → Walk
behind w xs s k = record {
  here = unit_in_reach w xs s k.here;
  child = k.child + length (passed k.left s);
  left = remaining k.left s;
}

abbrev pub walk_faults : (w : ℕ → Writer) → List NamedSignal → Walk → List ModuleStep → List Fault
walk_faults w xs k [] = []
walk_faults w xs k (s ∷ ss) = step_faults k.here.scope k.left s ++ walk_faults w xs (behind w xs s k) ss

abbrev pub walk_items : (w : ℕ → Writer) → List NamedSignal → Walk → List ModuleStep → List PlacedItem
walk_items w xs k [] = []
walk_items w xs k (s ∷ ss) = step_items k.here.scope k.child k.left s ++ walk_items w xs (behind w xs s k) ss

abbrev pub walk_initials : (w : ℕ → Writer) → List NamedSignal → Walk → List ModuleStep → List InitialValue
walk_initials w xs k [] = []
walk_initials w xs k (s ∷ ss) = step_initials k.here.scope s ++ walk_initials w xs (behind w xs s k) ss
