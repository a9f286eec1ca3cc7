-- The modules of jobs are modules of the text, so what holds of these holds of those.
use Rattle.std.proofs.Common.{◌≡◌, ℕ, suc, ◌==◌, Bool, true, false, if◌then◌else◌, List, [], ◌∷◌, ◌++◌, All, map, refl, subst}
use Rattle.std.specs.Prelude.{Option, Some, None, Result, Ok, Err}
use Rattle.std.proofs.lemmas.List.Elements.{All-nil, All-cons, All-head, All-tail}
use Rattle.ls_text.specs.declared.fault.Fault.{Fault}
use Rattle.ls_text.specs.declared.name_id.NameId.{NameId}
use Rattle.verilog_ast.specs.declared.module.Module.{Module}
use Rattle.verilog_ast.specs.NamesWithin.{names_in_declaration, names_in_modules}
use Rattle.verilog_ast.specs.Views.{declaration_of}
use Rattle.typed_ir.specs.declared.child_shape.ChildShape.{ChildShape}
use Rattle.typed_ir.specs.declared.instance.Instance.{Instance}
use Rattle.typed_ir.specs.Shapes.{children_of, shape_of}
use Rattle.gen_unroll.specs.Steps.{ModuleStep}
use Rattle.ls_text.specs.Answers.{◌>>=◌}
use Rattle.module_registry.specs.declared.build_job.BuildJob.{BuildJob}
use Rattle.unit_jobs.specs.Jobs.{InstanceJob, module_called, or_no_module, steps_under, job_with, instance_job, jobs_from, tree_jobs}
use Rattle.unit_jobs.specs.JobViews.{job_view}

-- names of modules, module by module
module _ (P : NameId → Type 0) where
  front : (ns ms : List NameId) → All P (ns ++ ms) → All P ns
  front [] ms all = All-nil P
  front (n ∷ ns) ms all = All-cons P n ns (All-head P n (ns ++ ms) all) (front ns ms (All-tail P n (ns ++ ms) all))

  back : (ns ms : List NameId) → All P (ns ++ ms) → All P ms
  back [] ms all = all
  back (n ∷ ns) ms all = back ns ms (All-tail P n (ns ++ ms) all)

  abbrev HasNames : Module → Type 0
  HasNames m = All P (names_in_declaration (declaration_of m.body))

  pub each_named : (ms : List Module) → All P (names_in_modules ms) → All HasNames ms
  each_named [] all = All-nil HasNames
  each_named (m ∷ ms) all =
      All-cons HasNames m ms (front (names_in_declaration (declaration_of m.body)) (names_in_modules ms) all)
      (each_named ms (back (names_in_declaration (declaration_of m.body)) (names_in_modules ms) all))

module _ (P : Module → Type 0) (texts : List (List ℕ)) (ms : List Module) (all : All P ms) where
  module_in : (name : ℕ) (ns : List Module) (m : Module) → All P ns → module_called name ns ≡ Some m → P m
  module_in name [] m have is = absurd cc
  module_in name (n ∷ ns) m have is = cases (name == n.body.name.name.0) (module_in name ns m (All-tail P n ns have)) is
    where
      cases : (b : Bool) → (module_called name ns ≡ Some m → P m) → (if b then Some n else module_called name ns) ≡ Some m → P m
      cases true more here = let same : n ≡ m = cc in subst P same (All-head P n ns have)
      cases false more behind = more behind

  -- a job with these steps
  with_steps : (x : Instance) (within : List ChildShape) (m : Module) (r : Result (List ModuleStep) Fault) (j : InstanceJob) → P m
      → (r >>= λ steps. Ok (job_with texts x within m steps)) ≡ Ok j → P j.module
  with_steps x within m (Ok steps) j is made = let same : job_with texts x within m steps ≡ j = cc in subst (λ (k : InstanceJob). P k.module) same is
  with_steps x within m (Err f) j is made = absurd cc

  with_module : (x : Instance) (within : List ChildShape) (found : Option Module) (j : InstanceJob) → ((m : Module) → found ≡ Some m → P m)
      → (or_no_module found x.of_module >>= λ m. steps_under (declaration_of m.body) x.parameters >>= λ steps. Ok
      (job_with texts x within m steps)) ≡ Ok j
      → P j.module
  with_module x within None j one made = absurd cc
  with_module x within (Some m) j one made = with_steps x within m (steps_under (declaration_of m.body) x.parameters) j (one m refl) made

  one_job : (x : Instance) (within : List ChildShape) (j : InstanceJob) → instance_job texts ms x within ≡ Ok j → P j.module
  one_job x within j made =
      with_module x within (module_called x.of_module.0 ms) j (λ m is. module_in x.of_module.0 ms m all is) made

  abbrev IsOf : InstanceJob → Type 0
  IsOf j = P j.module

  both : (r : Result InstanceJob Fault) (rest : Result (List InstanceJob) Fault) (js : List InstanceJob) → ((j : InstanceJob) → r ≡ Ok j → IsOf j)
      → ((ks : List InstanceJob) → rest ≡ Ok ks → All IsOf ks) → (r >>= λ j. rest >>= λ ks. Ok (j ∷ ks)) ≡ Ok js → All IsOf js
  both (Err f) rest js first more is = absurd cc
  both (Ok j) (Err f) js first more is = absurd cc
  both (Ok j) (Ok ks) js first more is =
      let same : j ∷ ks ≡ js = cc in subst (All IsOf) same (All-cons IsOf j ks (first j refl) (more ks refl))

  from_each : (xs : List Instance) (k : ℕ) (rest : List Instance) (js : List InstanceJob) → jobs_from texts ms xs k rest ≡ Ok js → All IsOf js
  from_each xs k [] js is = let same : [] ≡ js = cc in subst (All IsOf) same (All-nil IsOf)
  from_each xs k (x ∷ rest) js is =
      both (instance_job texts ms x (map shape_of (children_of k xs))) (jobs_from texts ms xs (suc k) rest) js
      (one_job x (map shape_of (children_of k xs))) (from_each xs (suc k) rest) is

  seen_all : (names : List (List ℕ)) (js : List BuildJob) → All IsOf (map (job_view names) js) → All (λ (j : BuildJob). P j.module.value) js
  seen_all names [] have = All-nil (λ (j : BuildJob). P j.module.value)
  seen_all names (j ∷ js) have =
      All-cons (λ (k : BuildJob). P k.module.value) j js (All-head IsOf (job_view names j) (map (job_view names) js) have)
      (seen_all names js (All-tail IsOf (job_view names j) (map (job_view names) js) have))

  pub modules_of_jobs : (names : List (List ℕ)) (xs : List Instance) (js : List BuildJob) → tree_jobs texts ms xs ≡ Ok (map (job_view names) js)
      → All (λ (j : BuildJob). P j.module.value) js
  unfolding tree_jobs
  modules_of_jobs names xs js is = seen_all names js (from_each xs 0 xs (map (job_view names) js) is)
