-- A tree of units for copies of modules: side by side, each unit is that of the module by itself (IEEE Std 1364-2005, 12.1.2 and 12.3).
use Rattle.std.specs.Prelude.{◌≡◌, ◌≤◌, ℕ, List, [], ◌∷◌, length}
use Rattle.typed_ir.specs.declared.child_shape.ChildShape.{ChildShape}
use Rattle.typed_ir.specs.Items.{PlacedItems, unit_of}
use Rattle.typed_ir.specs.Trees as t
use Rattle.typed_ir.specs.Trees.{SizedUnit, Instances}
use Rattle.driver_rules.specs.Targets.{is_settled}
use Rattle.gen_unroll.specs.UnitLists.{unit_signals, declarations_of, data_inputs, registers}
use Rattle.unit_build.specs.Building.{with_initials}
use Rattle.unit_build.specs.Walks.{walk_faults, walk_initials}
use Rattle.version_swap.specs.Copies.{ModuleCopy, Copies, Nothing, One}
use Rattle.version_swap.specs.Flat.{writers_in, beginning_of, own_items}

-- a module by itself, as its unit is made
abbrev pub placed_copy : ModuleCopy → PlacedItems
placed_copy c = record {
  signals = with_initials (walk_initials (writers_in c) c.table.signals (beginning_of c) c.steps)
      (unit_signals c.declaration.name.name.0 c.names c.table.signals);
  declarations = declarations_of c.table.signals;
  registers = registers (is_settled (own_items c)) c.table;
  inputs = data_inputs c.clock c.table.signals;
  items = own_items c;
}

-- as many instances as shapes, and each has at least the signals that its shape has as ports
abbrev pub HavePorts : List ChildShape → Copies → Type 0
HavePorts [] Nothing = Unit {0}
HavePorts [] (One c within after) = ⊥
HavePorts (s ∷ ss) Nothing = ⊥
HavePorts (s ∷ ss) (One c within after) = (length s.ports ≤ length c.table.signals) × HavePorts ss after

pub record IsUnitOf (c : ModuleCopy) (within : Copies) (name : ℕ) (u : SizedUnit) : Type 0 where
  pub called : name ≡ c.name
  pub made : u ≡ unit_of (placed_copy c)
  pub no_fault : walk_faults (writers_in c) c.table.signals (beginning_of c) c.steps ≡ []
  pub ports : HavePorts c.children within

abbrev pub AreUnitsOf : Copies → Instances → Type 0
AreUnitsOf Nothing t.Nothing = Unit {0}
AreUnitsOf Nothing (t.One name u inner later) = ⊥
AreUnitsOf (One c within after) t.Nothing = ⊥
AreUnitsOf (One c within after) (t.One name u inner later) = IsUnitOf c within name u × (AreUnitsOf within inner × AreUnitsOf after later)
