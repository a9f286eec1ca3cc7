-- What a job says beside its module, and walks over the module, by their parts.
use Rattle.std.proofs.Common.{◌≡◌, ℕ, List, Option, refl, ◌∙◌, ap₂}
use Rattle.ls_text.specs.declared.name_id.NameId.{NameId}
use Rattle.typed_ir.specs.declared.constant.Const.{Const}
use Rattle.typed_ir.specs.declared.child_shape.ChildShape.{ChildShape}
use Rattle.verilog_ast.specs.Items.{ModuleDeclaration}
use Rattle.width_rules.specs.declared.writer.Writer.{Writer}
use Rattle.gen_unroll.specs.Reaches.{Reach}
use Rattle.gen_unroll.specs.Numbers.{SignalTable}
use Rattle.gen_unroll.specs.UnitReaches.{unit_reach_in}
use Rattle.module_registry.specs.declared.build_job.BuildJob.{BuildJob}
use Rattle.unit_build.specs.Building.{module_of, job_steps, built}
use Rattle.unit_build.specs.Walks.{Walk}
use Rattle.unit_build.specs.BuiltModules.{Usage, usage_of, built_module}

-- ---- walks

abbrev pub walk_with : Reach → ℕ → List ChildShape → Walk
walk_with here child left = record { here = here; child = child; left = left }

-- where the walk begins, for what may write the signals
abbrev pub start_with : ModuleDeclaration → Usage → SignalTable → (ℕ → Writer) → Walk
start_with m u t w = record { here = unit_reach_in w t.signals m; child = 0; left = u.children }

-- ---- jobs

pub of_module : (job : BuildJob) → built job ≡ built_module (module_of job) (usage_of job)
unfolding built job_steps
of_module job = refl

abbrev pub usage_with : List Const → Option NameId → List ChildShape → List NameId → Usage
usage_with parameters clock children names = record { parameters = parameters; clock = clock; children = children; names = names }

pub usage_so : (a b : Usage) → a.parameters ≡ b.parameters → a.clock ≡ b.clock → a.children ≡ b.children → a.names ≡ b.names → a ≡ b
usage_so a b parameters clock children names =
    ap₂ (λ (ps : List Const) (c : Option NameId). usage_with ps c a.children a.names) parameters clock
    ∙ ap₂ (usage_with b.parameters b.clock) children names
