-- A tree of instances as a table: depth first, each with the number of the one that it stands in (IEEE Std 1364-2005, 12.4).
use Rattle.std.specs.Prelude.{◌≡◌, ℕ, suc, ◌+◌, List, [], ◌∷◌, ◌++◌, Option, Some, None, map}
use Rattle.std.specs.Global.{Global}
use Rattle.std.specs.declared.sync.Arc.{Arc}
use Rattle.typed_ir.specs.declared.instance.Instance.{Instance}
use Rattle.typed_ir.specs.declared.unit.Unit.{Unit as Unit'}
use Rattle.typed_ir.specs.declared.unit_parts.UnitParts.{UnitParts}
use Rattle.typed_ir.specs.Trees.{SizedUnit, Instances, Nothing, One}
use Rattle.typed_ir.specs.Units.{sized_unit}

pub record Entry : Type 0 where
  -- none at the top
  pub parent : Option ℕ
  pub name : ℕ
  pub unit : SizedUnit

abbrev pub instances_in : Instances → ℕ
instances_in Nothing = 0
instances_in (One name u within after) = suc (instances_in within + instances_in after)

-- instances side by side in `parent`, of which the first has the number `index`
abbrev pub listed : Option ℕ → ℕ → Instances → List Entry
listed parent index Nothing = []
listed parent index (One name u within after) =
    record { parent = parent; name = name; unit = u }
    ∷ (listed (Some index) (suc index) within ++ listed parent (suc index + instances_in within) after)

abbrev pub entry_of : Instance → UnitParts → Entry
entry_of x u = record { parent = x.place.parent; name = x.place.name.0; unit = sized_unit u }

-- a table of instances, each with its unit
abbrev pub entries_of : List Instance → List UnitParts → List Entry
entries_of [] us = []
entries_of (x ∷ xs) [] = []
entries_of (x ∷ xs) (u ∷ us) = entry_of x u ∷ entries_of xs us

-- the tree of which this is the table
abbrev pub IsTreeOf : List Instance → List UnitParts → Instances → Type 0
IsTreeOf xs us tree = listed None 0 tree ≡ entries_of xs us

abbrev pub parts_of : Arc Unit' Global → UnitParts
parts_of u = u.value.parts

abbrev pub all_parts : List (Arc Unit' Global) → List UnitParts
all_parts units = map parts_of units
