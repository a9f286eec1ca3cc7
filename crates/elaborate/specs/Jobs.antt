-- Modules that were visited already: what is kept of a visit is what a second one would find.
use Rattle.std.specs.Prelude.{◌≡◌, ℕ, List, map, Option, Some, None, Ok}
use Rattle.std.specs.declared.sync.Arc.{Arc}
use Rattle.std.proofs.Common.{Global, Vec}
use Rattle.std.specs.List.{All}
use Rattle.ls_text.specs.declared.name_id.NameId.{NameId}
use Rattle.typed_ir.specs.declared.constant.Const.{Const}
use Rattle.verilog_ast.specs.Items.{ModuleDeclaration}
use Rattle.gen_unroll.specs.Views.{here_of, override_view}
use Rattle.elaborate.specs.declared.growing.Growing.{Growing}
use Rattle.elaborate.specs.declared.job.Job.{Job}
use Rattle.elaborate.specs.declared.visit_key.VisitKey.{VisitKey}
use Rattle.elaborate.specs.declared.standing.StandingInstance.{StandingInstance}
use Rattle.elaborate.specs.Elaborated.{Standing}
use Rattle.module_names.specs.Modules.{module_named}
use Rattle.clock_rules.specs.Views.{clock_view}
use Rattle.elaborate.specs.Views.{visited_of}
use Rattle.elaborate.specs.Visits.{Visited, visited}

abbrev pub job_view : Arc Job Global → Visited
job_view job = visited_of job.value.visited

abbrev pub standing_of : StandingInstance → Standing
standing_of s = record {
  parent = s.parent;
  block = here_of s.block;
  name = s.name;
  instantiated = s.job.value.instantiated.0;
  overrides = map override_view s.job.value.overrides.items;
  clock = clock_view s.job.value.clock;
  visited = job_view s.job;
}

abbrev pub all_view : Vec StandingInstance Global → List Standing
all_view all = map standing_of all.items

-- a visit of this module, under these overrides and with this clock port
pub record IsOf (job : Job) (name : NameId) (overrides : List (Option Const)) (clock : Option NameId) : Type 0 where
  pub named : job.instantiated.0 ≡ name.0
  pub given : map override_view job.overrides.items ≡ map override_view overrides
  pub clocked : clock_view job.clock ≡ clock_view clock

-- what is kept is what the visit finds
pub record IsJob (turns : ℕ) (ms : List ModuleDeclaration) (job : Job) : Type 0 where
  pub found : (m : ModuleDeclaration) → module_named job.instantiated.0 ms ≡ Some m
      → visited turns ms None m (map override_view job.overrides.items) (clock_view job.clock) ≡ Ok (visited_of job.visited)

abbrev pub kept_job : VisitKey × Arc Job Global → Job
kept_job e = e.1.value

pub record AreJobs (turns : ℕ) (ms : List ModuleDeclaration) (jobs : List (VisitKey × Arc Job Global)) : Type 0 where
  pub all : All (λ (e : VisitKey × Arc Job Global). IsJob turns ms (kept_job e)) jobs

-- the visits within an instance leave the limits and the path as they were
pub record Keeps (ms : List ModuleDeclaration) (earlier later : Growing) : Type 0 where
  pub limits : later.limits ≡ earlier.limits
  pub path : later.path.items ≡ earlier.path.items
  pub jobs : AreJobs earlier.limits.turns ms later.jobs.entries
