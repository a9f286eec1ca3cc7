-- The results of several jobs, each by itself, and what they come to together.
use Rattle.std.specs.Prelude.{◌≡◌, List, [], ◌∷◌, Result, Ok, Err, ⊤}
use Rattle.ls_text.specs.declared.fault.Fault.{Fault}
use Rattle.ls_text.specs.declared.refusal.Refusal.{Refusal}
use Rattle.ls_text.specs.declared.refusal.Refusal.TheVariants as refusal
use Rattle.typed_ir.specs.declared.unit.Unit.{Unit as ModuleUnit}
use Rattle.module_registry.specs.Building.{Built}
use Rattle.module_registry.specs.UnitViews.{built_of}

-- the unit or the fault that building gives, or want of memory
abbrev pub IsResultOf : Result Built Fault → Result ModuleUnit Refusal → Type 0
IsResultOf found (Ok u) = found ≡ Ok (built_of u)
IsResultOf found (Err (refusal.Fault f)) = found ≡ Err f
IsResultOf found (Err refusal.NoMemory) = ⊤

-- a unit before these, where there are any
abbrev pub before : ModuleUnit → Result (List ModuleUnit) Refusal → Result (List ModuleUnit) Refusal
before u (Ok us) = Ok (u ∷ us)
before u (Err e) = Err e

-- the units, or the first refusal
abbrev pub all_of : List (Result ModuleUnit Refusal) → Result (List ModuleUnit) Refusal
all_of [] = Ok []
all_of (Ok u ∷ rs) = before u (all_of rs)
all_of (Err e ∷ rs) = Err e

-- a refusal is the first one, or want of memory
abbrev pub RefusesFirst : Refusal → Result (List ModuleUnit) Refusal → Type 0
RefusesFirst (refusal.Fault f) found = found ≡ Err (refusal.Fault f)
RefusesFirst refusal.NoMemory found = ⊤
