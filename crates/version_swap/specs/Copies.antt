-- The modules of a design, each copied out at each of its instances, and the signals of all of them (IEEE Std 1364-2005, 12.1.2 and 12.4).
use Rattle.std.specs.Prelude.{ℕ, suc, ◌==◌, ◌&&◌, if◌then◌else◌, List, [], ◌∷◌, ◌++◌, Option}
use Rattle.ls_text.specs.declared.name_id.NameId.{NameId}
use Rattle.typed_ir.specs.Paths.{same_path}
use Rattle.verilog_ast.specs.Items.{ModuleDeclaration}
use Rattle.typed_ir.specs.declared.child_shape.ChildShape.{ChildShape}
use Rattle.gen_unroll.specs.Steps.{ModuleStep}
use Rattle.gen_unroll.specs.Signals.{NamedSignal}
use Rattle.gen_unroll.specs.Numbers.{SignalTable}

-- a module as it stands somewhere: what it is called there, its steps under its parameters, its signals, its clock port, how it sees the instances
-- in it, and what its signals within generate blocks are called
pub record ModuleCopy : Type 0 where
  pub name : ℕ
  pub declaration : ModuleDeclaration
  pub steps : List ModuleStep
  pub table : SignalTable
  pub clock : Option NameId
  pub children : List ChildShape
  pub names : List NameId

-- copies side by side in one module, in item order; each with those in it
pub data Copies : Type 0 where
  Nothing : Copies
  One : (c : ModuleCopy) (within after : Copies) → Copies

-- ---- where a copy stands: the places of instances from the top on, each among those of its module; and their names

pub record Where : Type 0 where
  pub at : List ℕ
  pub path : List ℕ

-- the k-th of those in a copy
abbrev pub inside : Where → ℕ → ModuleCopy → Where
inside w k c = record { at = w.at ++ k ∷ []; path = w.path ++ c.name ∷ [] }

abbrev pub outside : Where
outside = record { at = []; path = [] }

-- what each copy gives, depth first; the first of them is the k-th
abbrev pub from_each : {A : Type 0} → (Where → ModuleCopy → List A) → Where → ℕ → Copies → List A
from_each own w k Nothing = []
from_each own w k (One c within after) =
    own (inside w k c) c ++ (from_each own (inside w k c) 0 within ++ from_each own w (suc k) after)

-- ---- the signals of a design: each of a module is one at each of its copies, and its number is its place among all

pub record SignalPlace : Type 0 where
  pub at : List ℕ
  pub signal : ℕ

abbrev pub places_from : List ℕ → ℕ → List NamedSignal → List SignalPlace
places_from at k [] = []
places_from at k (x ∷ xs) = record { at = at; signal = k } ∷ places_from at (suc k) xs

abbrev pub own_places : Where → ModuleCopy → List SignalPlace
own_places w c = places_from w.at 0 c.table.signals

abbrev pub all_places : Copies → List SignalPlace
all_places all = from_each own_places outside 0 all

abbrev pub place_in : List SignalPlace → (at : List ℕ) → (signal : ℕ) → ℕ
place_in [] at signal = 0
place_in (p ∷ ps) at signal = if same_path at p.at && (signal == p.signal) then 0 else suc (place_in ps at signal)
