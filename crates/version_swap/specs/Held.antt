-- What a registry holds under a table of names: the keys of jobs under this table, each with the unit that building gives for its job.
use Rattle.std.proofs.Common.{Global}
use Rattle.std.specs.Prelude.{◌≡◌, ℕ, List, map, Some, Result, Ok}
use Rattle.std.specs.List.{All}
use Rattle.std.specs.declared.sync.Arc.{Arc}
use Rattle.sha2.specs.Sha256.{sha256}
use Rattle.typed_ir.specs.declared.unit.Unit.{Unit as ModuleUnit}
use Rattle.ls_text.specs.declared.fault.Fault.{Fault}
use Rattle.module_registry.specs.declared.build_job.BuildJob.{BuildJob}
use Rattle.module_registry.specs.Building.{Built, built_all}
use Rattle.module_registry.specs.Entries.{Entry, unit_under}
use Rattle.module_registry.specs.Jobs.{job_text}
use Rattle.module_registry.specs.Keys.{KeyData, jobs_of}
use Rattle.module_registry.specs.UnitViews.{shared_unit}
use Rattle.unit_build.specs.Building.{built}
use Rattle.version_swap.specs.JobsUnder.{IsJobUnder}

-- a key as it is made of its job by this table
pub record IsKeyUnder (names : List (List ℕ)) (k : KeyData) : Type 0 where
  pub text : k.text ≡ job_text names k.job
  pub digest : k.digest ≡ sha256 k.text

pub record IsHeldUnder (names : List (List ℕ)) (e : Entry) : Type 0 where
  pub key : IsKeyUnder names e.key
  pub job : IsJobUnder names e.key.job
  -- the unit is that of the job
  pub unit : built e.key.job ≡ Ok e.unit

pub record AreHeldUnder (names : List (List ℕ)) (es : List Entry) : Type 0 where
  pub each : All (IsHeldUnder names) es

-- the units are those that a registry gives under these keys, one for each
abbrev pub AreUnder : List Entry → List KeyData → List (Arc ModuleUnit Global) → Type 0
AreUnder es ks units = map (λ (a : Arc ModuleUnit Global). Some (shared_unit a)) units ≡ map (λ (k : KeyData). unit_under k es) ks

-- each of these keys has a unit there, and the units are those that building gives for the jobs of the keys
pub record HaveUnits (builds : BuildJob → Result Built Fault) (es : List Entry) (ks : List KeyData) : Type 0 where
  pub units : List Built
  pub made : built_all builds (jobs_of ks) ≡ Ok units
  pub under : map (λ (k : KeyData). unit_under k es) ks ≡ map Some units
