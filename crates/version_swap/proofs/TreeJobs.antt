-- Each instance of a tree has a job.
use Rattle.std.proofs.Common.{◌≡◌, ℕ, suc, List, [], ◌∷◌, map, Result, Ok, refl, ◌∙◌, ap, subst, sym}
use Rattle.std.specs.Prelude.{Option}
use Rattle.ls_text.specs.declared.fault.Fault.{Fault}
use Rattle.typed_ir.specs.Orders.{Each}
use Rattle.verilog_ast.specs.declared.module.Module.{Module}
use Rattle.verilog_ast.specs.Views.{declaration_of, declarations_of}
use Rattle.typed_ir.specs.declared.child_shape.ChildShape.{ChildShape}
use Rattle.typed_ir.specs.declared.instance.Instance.{Instance}
use Rattle.typed_ir.specs.Shapes.{children_of, shape_of}
use Rattle.gen_unroll.specs.Steps.{ModuleStep}
use Rattle.gen_unroll.specs.Unrolled.{unrolled_module, turn_limit}
use Rattle.ls_text.specs.Answers.{◌>>=◌}
use Rattle.gen_unroll.proofs.Answered.{ok_same, first_step}
use Rattle.elaborate.specs.declared.limits.Limits.{Limits}
use Rattle.elaborate.specs.Elaborated.{Standing, elaborated}
use Rattle.elaborate.specs.Trees.{all_seen, tree}
use Rattle.elaborate.specs.TreeViews.{instance_view, language_limits}
use Rattle.unit_jobs.specs.Jobs.{InstanceJob, or_no_module, steps_under, job_with, instance_job, jobs_from, tree_jobs}
use Rattle.version_swap.proofs.CodeTrees.{code_stands}
use Rattle.version_swap.proofs.InstanceModules.{all_visited}
use Rattle.version_swap.proofs.KnownInstances.{IsKnown, all_known}
use Rattle.version_swap.proofs.VisitedAgain.{visited_again}

-- the steps of an instance's module
abbrev pub known_steps : {ms : List Module} {x : Instance} → IsKnown turn_limit ms x → List ModuleStep
known_steps k = (unrolled_module turn_limit k.overrides (declaration_of k.code.body)).said

pub steps_known : (ms : List Module) (x : Instance) (k : IsKnown turn_limit ms x)
    → steps_under (declaration_of k.code.body) x.parameters ≡ Ok (known_steps k)
steps_known ms x k =
    visited_again turn_limit (declarations_of ms) k.most (declaration_of k.code.body) k.overrides k.clock k.visit x.parameters
    (code_stands k.code.body) k.found k.parameters

pub job_known : (texts : List (List ℕ)) (ms : List Module) (x : Instance) (within : List ChildShape) (k : IsKnown turn_limit ms x)
    → instance_job texts ms x within ≡ Ok (job_with texts x within k.code (known_steps k))
job_known texts ms x within k =
    ap (λ (o : Option Module). or_no_module o x.of_module >>= λ m. steps_under (declaration_of m.body) x.parameters
    >>= λ steps. Ok (job_with texts x within m steps)) k.called
    ∙ ap (λ (r : Result (List ModuleStep) Fault). r >>= λ steps. Ok (job_with texts x within k.code steps)) (steps_known ms x k)

-- the jobs of instances
abbrev pub jobs_known : (texts : List (List ℕ)) (ms : List Module) (all : List Instance) (n : ℕ) (xs : List Instance)
    → Each (IsKnown turn_limit ms) xs → List InstanceJob
jobs_known texts ms all n [] are = []
jobs_known texts ms all n (x ∷ xs) are =
    job_with texts x (map shape_of (children_of n all)) are.0.code (known_steps are.0) ∷ jobs_known texts ms all (suc n) xs are.1

pub are_jobs_known : (texts : List (List ℕ)) (ms : List Module) (all : List Instance) (n : ℕ) (xs : List Instance)
    (are : Each (IsKnown turn_limit ms) xs) → jobs_from texts ms all n xs ≡ Ok (jobs_known texts ms all n xs are)
are_jobs_known texts ms all n [] are = refl
are_jobs_known texts ms all n (x ∷ xs) are =
    ap (λ (r : Result InstanceJob Fault). r >>= λ j. jobs_from texts ms all (suc n) xs >>= λ js. Ok (j ∷ js))
    (job_known texts ms x (map shape_of (children_of n all)) are.0)
    ∙ ap (λ (r : Result (List InstanceJob) Fault).
    r >>= λ js. Ok (job_with texts x (map shape_of (children_of n all)) are.0.code (known_steps are.0) ∷ js))
    (are_jobs_known texts ms all (suc n) xs are.1)

-- the instances of a tree that was elaborated
pub tree_known : (l : Limits) (texts known_texts : List (List ℕ)) (ms : List Module) (name clock : ℕ) (all : List Standing) (xs : List Instance)
    → l.turns ≡ turn_limit → elaborated l (declarations_of ms) name clock ≡ Ok all → map (instance_view known_texts) xs ≡ all_seen texts all
    → Each (IsKnown turn_limit ms) xs
tree_known l texts known_texts ms name clock all xs turns is same =
    subst (λ (n : ℕ). Each (IsKnown n ms) xs) turns
    (all_known l.turns ms texts known_texts all xs (all_visited l (declarations_of ms) name clock all is) same)

-- a tree that was elaborated has jobs, whatever texts name its signals
pub jobs_there : (l : Limits) (texts known_texts others : List (List ℕ)) (ms : List Module) (name clock : ℕ) (all : List Standing)
    (xs : List Instance) → l.turns ≡ turn_limit → elaborated l (declarations_of ms) name clock ≡ Ok all
    → map (instance_view known_texts) xs ≡ all_seen texts all → (jobs : List InstanceJob) × (tree_jobs others ms xs ≡ Ok jobs)
unfolding tree_jobs
jobs_there l texts known_texts others ms name clock all xs turns is same =
    let are = tree_known l texts known_texts ms name clock all xs turns is same in
    (jobs_known others ms xs 0 xs are, are_jobs_known others ms xs 0 xs are)

-- ---- what elaboration gives

-- the turns that the language allows are those of a job
pub language_turns : language_limits.turns ≡ turn_limit
unfolding turn_limit
language_turns = refl

-- instances that are seen as those of a tree
pub record IsSeenOf (l : Limits) (texts known_texts : List (List ℕ)) (ms : List Module) (name clock : ℕ) (xs : List Instance) : Type 0 where
  pub all : List Standing
  pub elaborates : elaborated l (declarations_of ms) name clock ≡ Ok all
  pub same : map (instance_view known_texts) xs ≡ all_seen texts all

pub seen_of : (l : Limits) (texts known_texts : List (List ℕ)) (ms : List Module) (name clock : ℕ) (xs : List Instance)
    → tree l texts (declarations_of ms) name clock ≡ Ok (map (instance_view known_texts) xs) → IsSeenOf l texts known_texts ms name clock xs
unfolding tree
seen_of l texts known_texts ms name clock xs is =
    let s = first_step (elaborated l (declarations_of ms) name clock) (λ all. Ok (all_seen texts all)) (map (instance_view known_texts) xs) is in
    record { all = s.value; elaborates = s.first; same = sym (ok_same (all_seen texts s.value) (map (instance_view known_texts) xs) s.second) }

pub tree_has_jobs : (l : Limits) (texts known_texts others : List (List ℕ)) (ms : List Module) (name clock : ℕ) (xs : List Instance)
    → l.turns ≡ turn_limit → tree l texts (declarations_of ms) name clock ≡ Ok (map (instance_view known_texts) xs)
    → (jobs : List InstanceJob) × (tree_jobs others ms xs ≡ Ok jobs)
tree_has_jobs l texts known_texts others ms name clock xs turns is =
    let s = seen_of l texts known_texts ms name clock xs is in
    jobs_there l texts known_texts others ms name clock s.all xs turns s.elaborates s.same
