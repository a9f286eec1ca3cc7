-- What a job has of the instance that it is of: its module, and what its names within blocks are called.
use Rattle.std.proofs.Common.{◌≡◌, ℕ, suc, List, [], ◌∷◌, All, map, refl, subst}
use Rattle.std.specs.Prelude.{Option, Some, None, Result, Ok, Err}
use Rattle.std.specs.List.{AllZip}
use Rattle.ls_text.specs.declared.fault.Fault.{Fault}
use Rattle.typed_ir.specs.declared.constant.Const.{Const}
use Rattle.verilog_ast.specs.declared.identifier.Identifier.{Identifier}
use Rattle.verilog_ast.specs.declared.module.Module.{Module}
use Rattle.verilog_ast.specs.Items.{ModuleDeclaration}
use Rattle.verilog_ast.specs.Views.{declaration_of}
use Rattle.typed_ir.specs.declared.child_shape.ChildShape.{ChildShape}
use Rattle.typed_ir.specs.declared.instance.Instance.{Instance}
use Rattle.typed_ir.specs.Shapes.{children_of, shape_of}
use Rattle.gen_unroll.specs.Overriding.{constant_sorts, overrides_of}
use Rattle.gen_unroll.specs.Steps.{ModuleStep, blocks_in}
use Rattle.gen_unroll.specs.Told.{Told}
use Rattle.gen_unroll.specs.Unrolled.{State, unrolled_module, turn_limit, steps_told}
use Rattle.ls_text.specs.Answers.{◌>>=◌}
use Rattle.unit_jobs.specs.BlockNames.{texts_within}
use Rattle.unit_jobs.specs.Jobs.{InstanceJob, module_called, or_no_module, steps_under, job_with, instance_job, jobs_from, tree_jobs}
use Rattle.version_swap.proofs.StepNames.{AreNamed, IsStepNamed, told_go}

-- ---- the steps of a module

said_named : (P : Identifier → Type 0) (t : Told State) (steps : List ModuleStep) → All (IsStepNamed P) t.said → steps_told t ≡ Ok steps
    → All (IsStepNamed P) steps
said_named P t steps named is = by t.ending is
  where
    by : (r : Result State Fault) → (r >>= λ st. Ok t.said) ≡ Ok steps → All (IsStepNamed P) steps
    by (Ok st) here = let same : t.said ≡ steps = cc in subst (All (IsStepNamed P)) same named
    by (Err e) here = absurd cc

pub steps_are_named : (P : Identifier → Type 0) (m : ModuleDeclaration) (values : List Const) (steps : List ModuleStep) → AreNamed P m.items
    → steps_under m values ≡ Ok steps → All (IsStepNamed P) steps
steps_are_named P m values steps named is =
    said_named P (unrolled_module turn_limit (overrides_of (constant_sorts m) values) m) steps
    (told_go P turn_limit (overrides_of (constant_sorts m) values) m named) is

-- ---- a job and its instance

pub record IsJobFrom (texts : List (List ℕ)) (ms : List Module) (x : Instance) (j : InstanceJob) : Type 0 where
  pub code : Module
  pub called : module_called x.of_module.0 ms ≡ Some code
  pub of_code : j.«module» ≡ code
  pub steps : List ModuleStep
  pub unrolled : steps_under (declaration_of code.body) x.parameters ≡ Ok steps
  pub named : j.names ≡ texts_within texts (blocks_in steps) [] steps

module _ (texts : List (List ℕ)) (ms : List Module) where
  with_steps : (x : Instance) (within : List ChildShape) (m : Module) (r : Result (List ModuleStep) Fault) (j : InstanceJob)
      → module_called x.of_module.0 ms ≡ Some m → steps_under (declaration_of m.body) x.parameters ≡ r
      → (r >>= λ steps. Ok (job_with texts x within m steps)) ≡ Ok j → IsJobFrom texts ms x j
  with_steps x within m (Ok steps) j called unrolled made =
      let same : job_with texts x within m steps ≡ j = cc in
      subst (IsJobFrom texts ms x) same
      (record { code = m; called = called; of_code = refl; steps = steps; unrolled = unrolled; named = refl })
  with_steps x within m (Err f) j called unrolled made = absurd cc

  with_module : (x : Instance) (within : List ChildShape) (found : Option Module) (j : InstanceJob) → module_called x.of_module.0 ms ≡ found
      → (or_no_module found x.of_module >>= λ m. steps_under (declaration_of m.body) x.parameters >>= λ steps. Ok
      (job_with texts x within m steps)) ≡ Ok j
      → IsJobFrom texts ms x j
  with_module x within None j called made = absurd cc
  with_module x within (Some m) j called made = with_steps x within m (steps_under (declaration_of m.body) x.parameters) j called refl made

  abbrev AreFrom : List Instance → List InstanceJob → Type 0
  AreFrom xs js = AllZip (IsJobFrom texts ms) xs js

  both : (x : Instance) (rest : List Instance) (r : Result InstanceJob Fault) (more : Result (List InstanceJob) Fault) (js : List InstanceJob)
      → ((j : InstanceJob) → r ≡ Ok j → IsJobFrom texts ms x j) → ((ks : List InstanceJob) → more ≡ Ok ks → AreFrom rest ks)
      → (r >>= λ j. more >>= λ ks. Ok (j ∷ ks)) ≡ Ok js → AreFrom (x ∷ rest) js
  both x rest (Err f) more js first later is = absurd cc
  both x rest (Ok j) (Err f) js first later is = absurd cc
  both x rest (Ok j) (Ok ks) js first later is =
      let same : j ∷ ks ≡ js = cc in subst (AreFrom (x ∷ rest)) same (first j refl, later ks refl)

  from_each : (xs : List Instance) (k : ℕ) (rest : List Instance) (js : List InstanceJob) → jobs_from texts ms xs k rest ≡ Ok js → AreFrom rest js
  from_each xs k [] js is = let same : [] ≡ js = cc in subst (AreFrom []) same tt
  from_each xs k (x ∷ rest) js is =
      both x rest (instance_job texts ms x (map shape_of (children_of k xs))) (jobs_from texts ms xs (suc k) rest) js
      (λ j made. with_module x (map shape_of (children_of k xs)) (module_called x.of_module.0 ms) j refl made) (from_each xs (suc k) rest) is

  pub jobs_are_from : (xs : List Instance) (js : List InstanceJob) → tree_jobs texts ms xs ≡ Ok js → AreFrom xs js
  unfolding tree_jobs
  jobs_are_from xs js is = from_each xs 0 xs js is
