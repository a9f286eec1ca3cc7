-- What the instances of a table give, one after another.
use Rattle.std.specs.Prelude.{ℕ, suc, ◌+◌, List, [], ◌∷◌, ◌++◌, map, length, slice_index_or, if◌then◌else◌}
use Rattle.typed_ir.specs.declared.instance_name.InstanceName.{InstanceName}
use Rattle.typed_ir.specs.Paths.{paths_of}
use Rattle.typed_ir.specs.declared.instance.Instance.{Instance}
use Rattle.typed_ir.specs.declared.unit_parts.UnitParts.{UnitParts}
use Rattle.typed_ir.specs.Shapes.{stands_in}
use Rattle.typed_ir.specs.Trees.{SizedUnit, Standing}
use Rattle.typed_ir.specs.Units.{sized_unit}
use Rattle.link.specs.Listings.{Entry}

-- the first signals of those that stand in instance k; the signals of the first of the list begin at `first`
abbrev pub kids_in : ℕ → ℕ → List Entry → List ℕ
kids_in k first [] = []
kids_in k first (x ∷ xs) = (if stands_in k x.parent then first ∷ [] else []) ++ kids_in k (first + length x.unit.signals) xs

abbrev pub path_at : List InstanceName → ℕ → List ℕ
path_at rows k = slice_index_or (paths_of rows) k []

-- what instances from number k on give, by their paths and by the first signals of those in them
abbrev pub copied_from : {A : Type 0} → (Standing → SizedUnit → List A) → (ℕ → List ℕ) → (ℕ → List ℕ) → ℕ → ℕ → List SizedUnit → List A
copied_from own path kids k first [] = []
copied_from own path kids k first (u ∷ us) =
    own (record { path = path k; first = first; kids = kids k }) u ++ copied_from own path kids (suc k) (first + length u.signals) us

abbrev pub nodes_in : List SizedUnit → ℕ
nodes_in [] = 0
nodes_in (u ∷ us) = length u.nodes + nodes_in us

-- the data inputs of the first
abbrev pub first_inputs : List SizedUnit → List ℕ
first_inputs [] = []
first_inputs (u ∷ us) = u.inputs

abbrev pub all_sized : List UnitParts → List SizedUnit
all_sized us = map sized_unit us

abbrev pub place_of : Instance → InstanceName
place_of x = x.place

abbrev pub places_of : List Instance → List InstanceName
places_of xs = map place_of xs
