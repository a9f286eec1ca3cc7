-- The jobs of instances with their rows, one after another, and those of a tree.
use Rattle.std.proofs.Common.{◌≡◌, ℕ, suc, List, [], ◌∷◌, ◌++◌, map, refl, sym, ◌∙◌, ap, append_assoc, append-nil}
use Rattle.std.specs.Prelude.{Option, Result, Ok, Err}
use Rattle.ls_text.specs.declared.fault.Fault.{Fault}
use Rattle.ls_text.specs.declared.refusal.Refusal.{Refusal}
use Rattle.ls_text.specs.declared.refusal.Refusal.TheVariants as refusal
use Rattle.typed_ir.specs.declared.child_shape.ChildShape.{ChildShape}
use Rattle.typed_ir.specs.declared.instance.Instance.{Instance}
use Rattle.typed_ir.specs.Shapes.{children_of, shape_of}
use Rattle.verilog_ast.specs.declared.module.Module.{Module}
use Rattle.verilog_ast.specs.Views.{declaration_of}
use Rattle.ls_text.specs.Answers.{Answers, ◌>>=◌}
use Rattle.unit_jobs.specs.FirstModules.{first_modules}
use Rattle.unit_jobs.specs.Jobs.{InstanceJob, instance_job, job_with, jobs_from, module_called, or_no_module, steps_under, tree_jobs}
use Rattle.unit_jobs.specs.Rows.{jobs_behind, jobs_in_rows, rows_from}
use Rattle.unit_jobs.proofs.Firsts.{same_found}

-- ---- one instance more

joined : (done now : List InstanceJob) (j : InstanceJob) (rest : Result (List InstanceJob) Fault) → now ≡ done ++ j ∷ []
    → jobs_behind now rest ≡ jobs_behind done (rest >>= λ js. Ok (j ∷ js))
joined done now j (Ok js) is = ap (λ (xs : List InstanceJob). Ok (xs ++ js)) is ∙ ap (λ (xs : List InstanceJob). Ok xs)
    (append_assoc done (j ∷ []) js)
joined done now j (Err e) is = refl

pub job_more : (texts : List (List ℕ)) (ms : List Module) (done now : List InstanceJob) (j : InstanceJob) (r : List ChildShape)
    (rows behind : List (List ChildShape))
    (x : Instance) (rest xs : List Instance) (whole : Result (List InstanceJob) Fault) → instance_job texts ms x r ≡ Ok j → now ≡ done ++ j ∷ []
    → rows ≡ r ∷ behind → rest ≡ x ∷ xs → jobs_behind done (jobs_in_rows texts ms rows rest) ≡ whole
    → jobs_behind now (jobs_in_rows texts ms behind xs) ≡ whole
job_more texts ms done now j r rows behind x rest xs whole one is split next so_far =
    joined done now j (jobs_in_rows texts ms behind xs) is
    ∙ ap (λ (o : Result InstanceJob Fault). jobs_behind done (o >>= λ j. jobs_in_rows texts ms behind xs >>= λ js. Ok (j ∷ js))) (sym one)
    ∙ sym (ap (λ (rs : List (List ChildShape)). jobs_behind done (jobs_in_rows texts ms rs rest)) split
    ∙ ap (λ (zs : List Instance). jobs_behind done (jobs_in_rows texts ms (r ∷ behind) zs)) next)
    ∙ so_far

-- the first that is refused
pub job_refused : {A C : Type 0} (texts : List (List ℕ)) (ms : List Module) (done : List InstanceJob) (e : Refusal) (r : List ChildShape)
    (rows behind : List (List ChildShape))
    (x : Instance) (rest xs : List Instance) (whole : Result (List InstanceJob) Fault) (view : A → InstanceJob) (all : C → List InstanceJob)
    → Answers (Err e) view (instance_job texts ms x r) → rows ≡ r ∷ behind → rest ≡ x ∷ xs
    → jobs_behind done (jobs_in_rows texts ms rows rest) ≡ whole
    → Answers (Err e) all whole
job_refused texts ms done (refusal.Fault f) r rows behind x rest xs whole view all one split next so_far =
    sym so_far
    ∙ ap (λ (rs : List (List ChildShape)). jobs_behind done (jobs_in_rows texts ms rs rest)) split
    ∙ ap (λ (zs : List Instance). jobs_behind done (jobs_in_rows texts ms (r ∷ behind) zs)) next
    ∙ ap (λ (o : Result InstanceJob Fault). jobs_behind done (o >>= λ j. jobs_in_rows texts ms behind xs >>= λ js. Ok (j ∷ js))) one
job_refused texts ms done refusal.NoMemory r rows behind x rest xs whole view all one split next so_far = tt

-- ---- the beginning and the end

pub none_yet : (rest : Result (List InstanceJob) Fault) → jobs_behind [] rest ≡ rest
none_yet (Ok js) = refl
none_yet (Err e) = refl

-- no row is left
pub row_none : (texts : List (List ℕ)) (ms : List Module) (done : List InstanceJob) (rows : List (List ChildShape)) (rest : List Instance)
    (whole : Result (List InstanceJob) Fault)
    → rows ≡ [] → jobs_behind done (jobs_in_rows texts ms rows rest) ≡ whole → whole ≡ Ok done
row_none texts ms done rows rest whole none so_far =
    sym so_far
    ∙ ap (λ (rs : List (List ChildShape)). jobs_behind done (jobs_in_rows texts ms rs rest)) none
    ∙ ap (λ (xs : List InstanceJob). Ok xs) (append-nil done)

no_instance : (texts : List (List ℕ)) (ms : List Module) (rows : List (List ChildShape)) → jobs_in_rows texts ms rows [] ≡ Ok []
no_instance texts ms [] = refl
no_instance texts ms (r ∷ rs) = refl

-- no instance is left
pub instance_none : (texts : List (List ℕ)) (ms : List Module) (done : List InstanceJob) (rows : List (List ChildShape)) (rest : List Instance)
    (whole : Result (List InstanceJob) Fault)
    → rest ≡ [] → jobs_behind done (jobs_in_rows texts ms rows rest) ≡ whole → whole ≡ Ok done
instance_none texts ms done rows rest whole none so_far =
    sym so_far
    ∙ ap (λ (zs : List Instance). jobs_behind done (jobs_in_rows texts ms rows zs)) none
    ∙ ap (jobs_behind done) (no_instance texts ms rows)
    ∙ ap (λ (xs : List InstanceJob). Ok xs) (append-nil done)

-- ---- those of a tree

-- that of an instance whose module is found, or not
abbrev pub job_found : (texts : List (List ℕ)) → Instance → List ChildShape → Option Module → Result InstanceJob Fault
job_found texts x within found =
    or_no_module found x.of_module
    >>= λ m. steps_under (declaration_of m.body) x.parameters
    >>= λ steps. Ok (job_with texts x within m steps)

-- only what is found under a name counts
same_jobs : (texts : List (List ℕ)) (ms ns : List Module) → ((n : ℕ) → module_called n ms ≡ module_called n ns)
    → (rows : List (List ChildShape)) (xs : List Instance)
    → jobs_in_rows texts ms rows xs ≡ jobs_in_rows texts ns rows xs
same_jobs texts ms ns same [] xs = refl
same_jobs texts ms ns same (r ∷ rs) [] = refl
same_jobs texts ms ns same (r ∷ rs) (x ∷ xs) =
    ap (λ (found : Option Module). job_found texts x r found >>= λ j. jobs_in_rows texts ms rs xs >>= λ js. Ok (j ∷ js)) (same x.of_module.0)
    ∙ ap (λ (rest : Result (List InstanceJob) Fault). instance_job texts ns x r >>= λ j. rest >>= λ js. Ok (j ∷ js))
    (same_jobs texts ms ns same rs xs)

by_rows : (texts : List (List ℕ)) (ms : List Module) (all : List Instance) (k : ℕ) (xs : List Instance)
    → jobs_in_rows texts ms (rows_from all k xs) xs ≡ jobs_from texts ms all k xs
by_rows texts ms all k [] = refl
by_rows texts ms all k (x ∷ xs) =
    ap (λ (rest : Result (List InstanceJob) Fault). instance_job texts ms x (map shape_of (children_of k all)) >>= λ j. rest >>= λ js. Ok (j ∷ js))
    (by_rows texts ms all (suc k) xs)

-- the modules of a table and the rows of a tree give the jobs of the tree
pub tree_by_rows : (texts : List (List ℕ)) (ms table : List Module) (rows : List (List ChildShape)) (all : List Instance)
    → table ≡ first_modules [] ms → rows ≡ rows_from all 0 all
    → tree_jobs texts ms all ≡ jobs_in_rows texts table rows all
unfolding tree_jobs
tree_by_rows texts ms table rows all found shapes =
    sym (ap (λ (ns : List Module). jobs_in_rows texts ns rows all) found
    ∙ ap (λ (rs : List (List ChildShape)). jobs_in_rows texts (first_modules [] ms) rs all) shapes
    ∙ same_jobs texts (first_modules [] ms) ms (λ n. same_found n ms) (rows_from all 0 all) all
    ∙ by_rows texts ms all 0 all)

pub ruleset instances = (job_more, job_refused, none_yet, row_none, instance_none)
