-- The jobs of a tree of instances under other names that have the same texts are the same under these names (IEEE 1364-2005, 12.1 to 12.4).
use Rattle.std.proofs.Common.{◌≡◌, ℕ, suc, ◌==◌, Bool, true, false, if◌then◌else◌, List, [], ◌∷◌, ◌++◌, map, Option, Some, None, Result, Ok, Err, refl, sym, ◌∙◌, ap, ap₂, subst}
use Rattle.std.specs.List.{AllZip}
use Rattle.ls_text.specs.declared.fault.Fault.{Fault}
use Rattle.ls_text.specs.declared.name_id.NameId.{NameId}
use Rattle.verilog_ast.specs.declared.identifier.Identifier.{Identifier}
use Rattle.verilog_ast.specs.declared.module.Module.{Module}
use Rattle.verilog_ast.specs.Items as i
use Rattle.verilog_ast.specs.Items.{ModuleItem, ModuleDeclaration}
use Rattle.verilog_ast.specs.Renamed.{renamed_identifier}
use Rattle.verilog_ast.specs.Renaming.{declared_as, declared_reg_as, item_as}
use Rattle.verilog_ast.specs.Views.{declaration_of}
use Rattle.typed_ir.specs.declared.child_shape.ChildShape.{ChildShape}
use Rattle.typed_ir.specs.declared.instance.Instance.{Instance}
use Rattle.typed_ir.specs.Shapes.{stands_in, children_of, shape_of}
use Rattle.width_rules.specs.Renaming.{fault_as}
use Rattle.gen_unroll.specs.Declarations.{declared_name, declared_reg_name}
use Rattle.gen_unroll.specs.Reaches.{innermost, blocks_around}
use Rattle.gen_unroll.specs.Steps.{GenerateBlock, ModuleStep, Listed, Port, Parameter, Item, Labelled, Opened, Closed, blocks_in}
use Rattle.ls_text.specs.Answers.{◌>>=◌}
use Rattle.unit_jobs.specs.BlockNames.{declared_by, called_in, item_texts, texts_within}
use Rattle.unit_jobs.specs.Jobs.{InstanceJob, module_called, steps_under, job_with, instance_job, jobs_from, tree_jobs}
use Rattle.unit_jobs.proofs.InRows.{job_found}
use Rattle.elaborate.specs.Renaming.{KeepsApart, SpellsSame, found_as, block_as, step_as}
use Rattle.elaborate.proofs.RenamedNames.{same_test, names_so}
use Rattle.elaborate.proofs.RenamedTexts.{same_spoken}
use Rattle.elaborate.proofs.RenamedTold.{same_blocks}
use Rattle.gen_unroll.proofs.MovedLists.{if_moved}
use Rattle.version_swap.specs.RenamedFindings.{shape_as}
use Rattle.version_swap.specs.Jobs.{IsModuleAs, instance_as, IsJobAs, AreJobsAs}
use Rattle.version_swap.proofs.RenamedSteps.{same_steps_with}

-- ---- what stands within blocks is called the same

declared_so : (f : NameId → NameId) (x : ModuleItem) → declared_by (item_as f x) ≡ map (renamed_identifier f) (declared_by x)
declared_so f (i.Wires at k nets) = names_so f declared_name (declared_as f) (λ x. refl) nets
declared_so f (i.Regs at k regs) = names_so f declared_reg_name (declared_reg_as f) (λ x. refl) regs
declared_so f rest = refl

called_so : (f : NameId → NameId) (texts others : List (List ℕ)) (blocks : List GenerateBlock) (b : ℕ) (ns : List Identifier)
    → SpellsSame f texts others
    → map (called_in others (map (block_as f) blocks) b) (map (renamed_identifier f) ns) ≡ map (called_in texts blocks b) ns
called_so f texts others blocks b [] same = refl
called_so f texts others blocks b (n ∷ ns) same =
    ap₂ (λ (t : List ℕ) (ts : List (List ℕ)). t ∷ ts) (same_spoken f texts others blocks (Some b) n.name same)
    (called_so f texts others blocks b ns same)

item_so : (f : NameId → NameId) (texts others : List (List ℕ)) (blocks : List GenerateBlock) (b : Option ℕ) (x : ModuleItem)
    → SpellsSame f texts others
    → item_texts others (map (block_as f) blocks) b (item_as f x) ≡ item_texts texts blocks b x
item_so f texts others blocks None x same = refl
item_so f texts others blocks (Some b) x same =
    ap (map (called_in others (map (block_as f) blocks) b)) (declared_so f x) ∙ called_so f texts others blocks b (declared_by x) same

within_so : (f : NameId → NameId) (texts others : List (List ℕ)) (blocks : List GenerateBlock) (around : List ℕ) (steps : List ModuleStep)
    → SpellsSame f texts others
    → texts_within others (map (block_as f) blocks) around (map (step_as f) steps) ≡ texts_within texts blocks around steps
within_so f texts others blocks around [] same = refl
within_so f texts others blocks around (Item x ∷ steps) same =
    ap₂ (λ (ts us : List (List ℕ)). ts ++ us) (item_so f texts others blocks (innermost around) x same)
    (within_so f texts others blocks around steps same)
within_so f texts others blocks around (Opened b items ∷ steps) same = within_so f texts others blocks (b.number ∷ around) steps same
within_so f texts others blocks around (Closed ∷ steps) same = within_so f texts others blocks (blocks_around around) steps same
within_so f texts others blocks around (Listed n ∷ steps) same = within_so f texts others blocks around steps same
within_so f texts others blocks around (Port p ∷ steps) same = within_so f texts others blocks around steps same
within_so f texts others blocks around (Parameter s n v ∷ steps) same = within_so f texts others blocks around steps same
within_so f texts others blocks around (Labelled n ∷ steps) same = within_so f texts others blocks around steps same

pub same_texts : (f : NameId → NameId) (texts others : List (List ℕ)) (steps : List ModuleStep) → SpellsSame f texts others
    → texts_within others (blocks_in (map (step_as f) steps)) [] (map (step_as f) steps) ≡ texts_within texts (blocks_in steps) [] steps
same_texts f texts others steps same =
    ap (λ (blocks : List GenerateBlock). texts_within others blocks [] (map (step_as f) steps)) (same_blocks f steps)
    ∙ within_so f texts others (blocks_in steps) [] steps same

-- ---- the module of an instance

abbrev IsFoundAs : (NameId → NameId) → Option Module → Option Module → Type 0
IsFoundAs f None None = Unit {0}
IsFoundAs f (Some m) (Some n) = IsModuleAs f m n
IsFoundAs f found other = ⊥

either_so : (f : NameId → NameId) (b : Bool) (m n : Module) (p q : Option Module) → IsModuleAs f m n → IsFoundAs f p q
    → IsFoundAs f (if b then Some m else p) (if b then Some n else q)
either_so f true m n p q is rest = is
either_so f false m n p q is rest = rest

found_so : (f : NameId → NameId) (name : NameId) (ms ns : List Module) → KeepsApart f → AllZip (IsModuleAs f) ms ns
    → IsFoundAs f (module_called name.0 ms) (module_called (f name).0 ns)
found_so f name [] [] apart all = tt
found_so f name [] (n ∷ ns) apart all = absurd all
found_so f name (m ∷ ms) [] apart all = absurd all
found_so f name (m ∷ ms) (n ∷ ns) apart all =
    subst (λ (b : Bool). IsFoundAs f (module_called name.0 (m ∷ ms)) (if b then Some n else module_called (f name).0 ns))
    (sym (ap (λ (d : ModuleDeclaration). (f name).0 == d.name.name.0) all.0 ∙ same_test f name m.body.name.name apart))
    (either_so f (name.0 == m.body.name.name.0) m n (module_called name.0 ms) (module_called (f name).0 ns) all.0
    (found_so f name ms ns apart all.1))

-- ---- the job of an instance

abbrev IsEndAs : (NameId → NameId) → Result InstanceJob Fault → Result InstanceJob Fault → Type 0
IsEndAs f (Ok j) (Ok k) = IsJobAs f j k
IsEndAs f (Err e) (Err d) = d ≡ fault_as f e
IsEndAs f found other = ⊥

with_steps : (f : NameId → NameId) (texts others : List (List ℕ)) (x : Instance) (within : List ChildShape) (m n : Module)
    (r : Result (List ModuleStep) Fault) → SpellsSame f texts others → IsModuleAs f m n
    → IsEndAs f (r >>= λ steps. Ok (job_with texts x within m steps))
    (found_as f (map (step_as f)) r >>= λ steps. Ok (job_with others (instance_as f x) (map (shape_as f) within) n steps))
with_steps f texts others x within m n (Ok steps) same is =
    record { of_module = is; parameters = refl; clock = refl; children = refl; names = same_texts f texts others steps same }
with_steps f texts others x within m n (Err e) same is = refl

-- of its module
of_module_so : (f : NameId → NameId) (texts others : List (List ℕ)) (x : Instance) (within : List ChildShape) (found other : Option Module)
    → KeepsApart f → SpellsSame f texts others → IsFoundAs f found other
    → IsEndAs f (job_found texts x within found) (job_found others (instance_as f x) (map (shape_as f) within) other)
of_module_so f texts others x within None None apart same is = refl
of_module_so f texts others x within None (Some n) apart same is = absurd is
of_module_so f texts others x within (Some m) None apart same is = absurd is
of_module_so f texts others x within (Some m) (Some n) apart same is =
    subst (λ (r : Result (List ModuleStep) Fault). IsEndAs f (job_found texts x within (Some m))
    (r >>= λ steps. Ok (job_with others (instance_as f x) (map (shape_as f) within) n steps)))
    (sym (ap (λ (d : ModuleDeclaration). steps_under d x.parameters) is ∙ same_steps_with f x.parameters (declaration_of m.body) apart))
    (with_steps f texts others x within m n (steps_under (declaration_of m.body) x.parameters) same is)

job_so : (f : NameId → NameId) (texts others : List (List ℕ)) (ms ns : List Module) (x : Instance) (within : List ChildShape) → KeepsApart f
    → SpellsSame f texts others → AllZip (IsModuleAs f) ms ns
    → IsEndAs f (instance_job texts ms x within) (instance_job others ns (instance_as f x) (map (shape_as f) within))
job_so f texts others ms ns x within apart same all =
    of_module_so f texts others x within (module_called x.of_module.0 ms) (module_called (f x.of_module).0 ns) apart same
    (found_so f x.of_module ms ns apart all)

-- ---- those of all instances

pub children_so : (f : NameId → NameId) (k : ℕ) (xs : List Instance) → children_of k (map (instance_as f) xs) ≡ map (instance_as f) (children_of k xs)
children_so f k [] = refl
children_so f k (x ∷ xs) =
    if_moved (map (instance_as f)) (stands_in k x.place.parent) (x ∷ children_of k xs) (children_of k xs) _ _
    (ap (λ (ys : List Instance). instance_as f x ∷ ys) (children_so f k xs)) (children_so f k xs)

pub shapes_so : (f : NameId → NameId) (xs : List Instance) → map shape_of (map (instance_as f) xs) ≡ map (shape_as f) (map shape_of xs)
shapes_so f [] = refl
shapes_so f (x ∷ xs) = ap (λ (ss : List ChildShape). shape_as f (shape_of x) ∷ ss) (shapes_so f xs)

both_so : (f : NameId → NameId) (r q : Result InstanceJob Fault) (s t : Result (List InstanceJob) Fault) → IsEndAs f r q → AreJobsAs f s t
    → AreJobsAs f (r >>= λ j. s >>= λ js. Ok (j ∷ js)) (q >>= λ j. t >>= λ js. Ok (j ∷ js))
both_so f (Ok j) (Ok k) (Ok js) (Ok ks) first rest = (first, rest)
both_so f (Ok j) (Ok k) (Err e) (Err d) first rest = rest
both_so f (Ok j) (Ok k) (Ok js) (Err d) first rest = absurd rest
both_so f (Ok j) (Ok k) (Err e) (Ok ks) first rest = absurd rest
both_so f (Ok j) (Err d) s t first rest = absurd first
both_so f (Err e) (Ok k) s t first rest = absurd first
both_so f (Err e) (Err d) s t first rest = first

jobs_so : (f : NameId → NameId) (texts others : List (List ℕ)) (ms ns : List Module) (all : List Instance) (k : ℕ) (xs : List Instance) → KeepsApart f
    → SpellsSame f texts others → AllZip (IsModuleAs f) ms ns
    → AreJobsAs f (jobs_from texts ms all k xs) (jobs_from others ns (map (instance_as f) all) k (map (instance_as f) xs))
jobs_so f texts others ms ns all k [] apart same modules = tt
jobs_so f texts others ms ns all k (x ∷ xs) apart same modules =
    both_so f _ _ _ _
    (subst (λ (within : List ChildShape). IsEndAs f (instance_job texts ms x (map shape_of (children_of k all)))
    (instance_job others ns (instance_as f x) within))
    (sym (ap (map shape_of) (children_so f k all) ∙ shapes_so f (children_of k all)))
    (job_so f texts others ms ns x (map shape_of (children_of k all)) apart same modules))
    (jobs_so f texts others ms ns all (suc k) xs apart same modules)

pub same_jobs : (f : NameId → NameId) (texts others : List (List ℕ)) (ms ns : List Module) (xs : List Instance) → KeepsApart f
    → SpellsSame f texts others → AllZip (IsModuleAs f) ms ns
    → AreJobsAs f (tree_jobs texts ms xs) (tree_jobs others ns (map (instance_as f) xs))
unfolding tree_jobs
same_jobs f texts others ms ns xs apart same modules = jobs_so f texts others ms ns xs 0 xs apart same modules
