-- The jobs of a tree of instances: of each instance its module as it is used there (IEEE Std 1364-2005, 12.1 to 12.4).
use Rattle.std.specs.Prelude.{ℕ, suc, ◌==◌, if◌then◌else◌, List, [], ◌∷◌, map, Option, Some, None, Result, Ok, Err}
use Rattle.ls_text.specs.declared.at.At.TheVariants.{Edit}
use Rattle.ls_text.specs.declared.fault.Fault.{Fault}
use Rattle.ls_text.specs.declared.name_id.NameId.{NameId}
use Rattle.typed_ir.specs.declared.constant.Const.{Const}
use Rattle.verilog_ast.specs.declared.module.Module.{Module}
use Rattle.verilog_ast.specs.Items.{ModuleDeclaration}
use Rattle.verilog_ast.specs.Views.{declaration_of}
use Rattle.typed_ir.specs.declared.child_shape.ChildShape.{ChildShape}
use Rattle.typed_ir.specs.declared.instance.Instance.{Instance}
use Rattle.typed_ir.specs.Shapes.{children_of, shape_of}
use Rattle.gen_unroll.specs.Overriding.{constant_sorts, overrides_of}
use Rattle.gen_unroll.specs.Steps.{ModuleStep, blocks_in}
use Rattle.gen_unroll.specs.Unrolled.{unrolled_module, turn_limit, steps_told}
use Rattle.ls_text.specs.Answers.{◌>>=◌}
use Rattle.unit_jobs.specs.BlockNames.{texts_within}

-- a job, with the texts of its names
pub record InstanceJob : Type 0 where
  pub «module» : Module
  pub parameters : List Const
  pub clock : Option NameId
  pub children : List ChildShape
  pub names : List (List ℕ)

-- ---- the module of an instance: the first of its name, else 20

abbrev pub module_called : ℕ → List Module → Option Module
module_called name [] = None
module_called name (m ∷ ms) = if name == m.body.name.name.0 then Some m else module_called name ms

abbrev pub or_no_module : Option Module → NameId → Result Module Fault
or_no_module None n = Err (record { code = 20; at = Edit; names = n ∷ [] })
or_no_module (Some m) n = Ok m

-- ---- its steps under these values of its parameters, or the first fault of unrolling it

abbrev pub steps_under : ModuleDeclaration → List Const → Result (List ModuleStep) Fault
steps_under m values = steps_told (unrolled_module turn_limit (overrides_of (constant_sorts m) values) m)

-- ---- its job

abbrev pub job_with : (texts : List (List ℕ)) → Instance → List ChildShape → Module → List ModuleStep → InstanceJob
job_with texts x within m steps = record {
  «module» = m;
  parameters = x.parameters;
  clock = x.clock;
  children = within;
  names = texts_within texts (blocks_in steps) [] steps;
}

-- of an instance with these shapes of the instances in it
abbrev pub instance_job : (texts : List (List ℕ)) → List Module → Instance → List ChildShape → Result InstanceJob Fault
instance_job texts ms x within =
    or_no_module (module_called x.of_module.0 ms) x.of_module
    >>= λ m. steps_under (declaration_of m.body) x.parameters
    >>= λ steps. Ok (job_with texts x within m steps)

-- from the k-th instance on, each with the shapes of those that stand in it
abbrev pub jobs_from : (texts : List (List ℕ)) → List Module → (all : List Instance) → ℕ → List Instance → Result (List InstanceJob) Fault
jobs_from texts ms all k [] = Ok []
jobs_from texts ms all k (x ∷ xs) =
    instance_job texts ms x (map shape_of (children_of k all)) >>= λ j. jobs_from texts ms all (suc k) xs >>= λ js. Ok (j ∷ js)

-- of all instances of a tree, in their order, or the first fault
unfoldable pub tree_jobs : (texts : List (List ℕ)) → List Module → List Instance → Result (List InstanceJob) Fault
tree_jobs texts ms all = jobs_from texts ms all 0 all
