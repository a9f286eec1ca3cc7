-- The copies of modules that a table of instances stands for: each instance is a copy of the module of its job (IEEE Std 1364-2005, 12.1.2).
use Rattle.std.specs.Prelude.{◌≡◌, ℕ, suc, ◌+◌, List, [], ◌∷◌, ◌++◌, Option, Some, None, Ok}
use Rattle.typed_ir.specs.declared.instance.Instance.{Instance}
use Rattle.module_registry.specs.declared.build_job.BuildJob.{BuildJob}
use Rattle.gen_unroll.specs.Numbers.{module_table}
use Rattle.unit_build.specs.Building.{module_of, job_steps}
use Rattle.version_swap.specs.BuiltCopies.{copy_of}
use Rattle.version_swap.specs.Copies.{ModuleCopy, Copies, Nothing, One}

-- ---- copies as a table: depth first, each with the number of the one that it stands in

pub record CopyEntry : Type 0 where
  -- none at the top
  pub parent : Option ℕ
  pub copy : ModuleCopy

abbrev pub copies_in : Copies → ℕ
copies_in Nothing = 0
copies_in (One c within after) = suc (copies_in within + copies_in after)

-- copies side by side in `parent`, of which the first has the number `index`
abbrev pub copies_listed : Option ℕ → ℕ → Copies → List CopyEntry
copies_listed parent index Nothing = []
copies_listed parent index (One c within after) =
    record { parent = parent; copy = c }
    ∷ (copies_listed (Some index) (suc index) within ++ copies_listed parent (suc index + copies_in within) after)

-- ---- an instance and its job

-- the copy stands where the instance does, has its name and is of the module of its job
pub record IsCopyOf (e : CopyEntry) (x : Instance) (job : BuildJob) : Type 0 where
  pub place : e.parent ≡ x.place.parent
  pub steps : job_steps job ≡ Ok e.copy.steps
  pub signals : module_table (module_of job) e.copy.steps ≡ Ok e.copy.table
  pub copied : e.copy ≡ copy_of x.place.name.0 job e.copy.steps e.copy.table

abbrev pub AreCopiesOf : List CopyEntry → List Instance → List BuildJob → Type 0
AreCopiesOf [] [] [] = Unit {0}
AreCopiesOf (e ∷ es) (x ∷ xs) (job ∷ jobs) = IsCopyOf e x job × AreCopiesOf es xs jobs
AreCopiesOf es xs jobs = ⊥

-- these copies are those of a table of instances with these jobs
abbrev pub IsTableOf : List Instance → List BuildJob → Copies → Type 0
IsTableOf xs jobs copies = AreCopiesOf (copies_listed None 0 copies) xs jobs
