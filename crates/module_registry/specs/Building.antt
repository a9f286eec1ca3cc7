-- What building gives: a unit for a job, or its fault.
use Rattle.std.specs.Prelude.{◌≡◌, List, [], ◌∷◌, Result, Ok, Err, ⊤}
use Rattle.ls_text.specs.Answers.{◌>>=◌}
use Rattle.ls_text.specs.declared.fault.Fault.{Fault}
use Rattle.ls_text.specs.declared.refusal.Refusal.{Refusal}
use Rattle.ls_text.specs.declared.refusal.Refusal.TheVariants as refusal
use Rattle.typed_ir.specs.declared.child_shape.ChildShape.{ChildShape}
use Rattle.typed_ir.specs.Trees.{SizedUnit}
use Rattle.module_registry.specs.declared.build_job.BuildJob.{BuildJob}

-- a unit as it is compared: what its parts mean, and the instances within
pub record Built : Type 0 where
  pub unit : SizedUnit
  pub shapes : List ChildShape

-- the units of jobs, in their order, or the fault of the first job that has one
abbrev pub built_all : (BuildJob → Result Built Fault) → List BuildJob → Result (List Built) Fault
built_all builds [] = Ok []
built_all builds (job ∷ jobs) = builds job >>= λ u. built_all builds jobs >>= λ us. Ok (u ∷ us)

-- a refusal is the fault that was found, or want of memory
abbrev pub Refuses : {A : Type 0} → Refusal → Result A Fault → Type 0
Refuses (refusal.Fault f) found = found ≡ Err f
Refuses refusal.NoMemory found = ⊤
