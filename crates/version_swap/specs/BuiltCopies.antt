-- Copies of the modules of jobs, beside a tree of the units that are built from these (IEEE Std 1364-2005, 12.1.2 and 12.2).
use Rattle.std.specs.Prelude.{◌≡◌, ℕ, List, Ok}
use Rattle.typed_ir.specs.declared.child_shape.ChildShape.{ChildShape}
use Rattle.typed_ir.specs.Trees as t
use Rattle.typed_ir.specs.Trees.{SizedUnit, Instances}
use Rattle.gen_unroll.specs.Steps.{ModuleStep}
use Rattle.module_registry.specs.declared.build_job.BuildJob.{BuildJob}
use Rattle.gen_unroll.specs.Numbers.{SignalTable, module_table}
use Rattle.unit_build.specs.Building.{module_of, job_steps, built}
use Rattle.version_swap.specs.Copies.{ModuleCopy, Copies, Nothing, One}
use Rattle.version_swap.specs.Units.{HavePorts}

-- the module of a job with these steps and signals, where it is called so
abbrev pub copy_of : (name : ℕ) → BuildJob → List ModuleStep → SignalTable → ModuleCopy
copy_of name job steps table = record {
  name = name;
  declaration = module_of job;
  steps = steps;
  table = table;
  clock = job.clock;
  children = job.children;
  names = job.names;
}

-- a copy is that of a job, from which its unit is built
pub record IsBuilt (c : ModuleCopy) (within : Copies) (name : ℕ) (u : SizedUnit) : Type 0 where
  pub job : BuildJob
  pub shapes : List ChildShape
  pub steps : job_steps job ≡ Ok c.steps
  pub signals : module_table (module_of job) c.steps ≡ Ok c.table
  pub copied : c ≡ copy_of name job c.steps c.table
  pub made : built job ≡ Ok (record { unit = u; shapes = shapes })
  pub ports : HavePorts shapes within

abbrev pub AreBuilt : Copies → Instances → Type 0
AreBuilt Nothing t.Nothing = Unit {0}
AreBuilt Nothing (t.One name u inner later) = ⊥
AreBuilt (One c within after) t.Nothing = ⊥
AreBuilt (One c within after) (t.One name u inner later) = IsBuilt c within name u × (AreBuilt within inner × AreBuilt after later)
