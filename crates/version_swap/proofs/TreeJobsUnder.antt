-- The jobs of an elaborated tree are jobs under the table of names behind them (IEEE Std 1364-2005, 12.1 to 12.5).
use Rattle.std.proofs.Common.{◌≡◌, ℕ, ◌==◌, ◌≤◌, suc, Bool, true, false, if◌then◌else◌, List, [], ◌∷◌, All, length, map, Option}
use Rattle.std.proofs.Common.{Some, None, Ok, refl, sym, ◌∙◌, ap, ap₂, subst}
use Rattle.std.proofs.Math.Nat.{le_refl}
use Rattle.std.proofs.lemmas.Bool.{eqb-true}
use Rattle.std.proofs.lemmas.List.Elements.{All-nil, All-cons, All-head, All-tail}
use Rattle.ls_text.specs.declared.name_id.NameId.{NameId}
use Rattle.ls_text.specs.Texts.{Grows}
use Rattle.ls_text.proofs.Tables.{same_id}
use Rattle.ls_text.proofs.Lists.{same_first, same_others}
use Rattle.typed_ir.specs.declared.constant.Const.{Const}
use Rattle.typed_ir.specs.Orders.{Each}
use Rattle.verilog_ast.specs.declared.identifier.Identifier.{Identifier}
use Rattle.verilog_ast.specs.declared.module.Module.{Module}
use Rattle.verilog_ast.specs.Views.{declaration_of, declarations_of}
use Rattle.typed_ir.specs.declared.child_shape.ChildShape.{ChildShape}
use Rattle.typed_ir.specs.declared.instance.Instance.{Instance}
use Rattle.typed_ir.specs.declared.port_shape.PortShape.{PortShape}
use Rattle.typed_ir.specs.Shapes.{stands_in, children_of, shape_of}
use Rattle.gen_unroll.specs.Steps.{ModuleStep, blocks_in}
use Rattle.gen_unroll.specs.Unrolled.{turn_limit}
use Rattle.gen_unroll.proofs.Answered.{ok_same}
use Rattle.module_registry.specs.declared.build_job.BuildJob.{BuildJob}
use Rattle.module_registry.specs.Constants.{constants_of}
use Rattle.elaborate.specs.declared.limits.Limits.{Limits}
use Rattle.elaborate.specs.Ports.{PortOutline, port_outline, port_outlines}
use Rattle.elaborate.specs.Tables.{Table, declared_as}
use Rattle.elaborate.specs.Trees.{tree}
use Rattle.elaborate.specs.TreeViews.{instance_view}
use Rattle.elaborate.specs.Views.{port_of}
use Rattle.module_names.specs.Modules.{header_ports}
use Rattle.unit_jobs.specs.BlockNames.{texts_within}
use Rattle.unit_jobs.specs.Jobs.{InstanceJob, module_called, steps_under, job_with, tree_jobs}
use Rattle.ls_text.specs.TextViews.{text_of}
use Rattle.unit_jobs.specs.JobViews.{job_view}
use Rattle.unit_build.specs.Building.{job_steps}
use Rattle.version_swap.proofs.KnownInstances.{IsKnown}
use Rattle.version_swap.proofs.Together.{visit_has}
use Rattle.version_swap.proofs.TreeJobs.{known_steps, steps_known, jobs_known, are_jobs_known, tree_known, seen_of}
use Rattle.version_swap.specs.InstancesTold.{is_port_name, HasOwnClock, IsInstanceTold, HasNamesIn}
use Rattle.version_swap.specs.JobsUnder.{IsJobUnder}
use Rattle.version_swap.specs.Spelled.{IsSpelledUnder}
use Rattle.version_swap.specs.Told.{IsPortTold, IsClockTold, IsChildTold}
use Rattle.version_swap.proofs.ConstantValues.{as_many_values}
use Rattle.version_swap.proofs.GrownJobs.{within_grown, labels_in, clock_grown}
use Rattle.version_swap.proofs.GrownSpelling.{grown_spelled}
use Rattle.version_swap.proofs.PortNames.{IsWordIn, ports_are_words}
use Rattle.version_swap.proofs.StepNames.{IsStepNamed, steps_named}
use Rattle.version_swap.proofs.ToldInstances.{outline_name, instances_told}
use Rattle.version_swap.proofs.TreeNames.{IsNameIn, tree_in}

-- the first module of a name is one of them
module_in : (P : Module → Type 0) (name : ℕ) (ms : List Module) (m : Module) → All P ms → module_called name ms ≡ Some m → P m
module_in P name [] m all is = absurd cc
module_in P name (n ∷ ms) m all is =
    cases (name == n.body.name.name.0) (module_in P name ms m (All-tail P n ms all)) is
  where
    cases : (b : Bool) → (module_called name ms ≡ Some m → P m) → (if b then Some n else module_called name ms) ≡ Some m → P m
    cases true more here = let same : n ≡ m = cc in subst P same (All-head P n ms all)
    cases false more behind = more behind

-- those that stand in one are told as all are
children_told : (names : List (List ℕ)) (k : ℕ) (xs : List Instance) → All (IsChildTold names) (map shape_of xs)
    → All (IsChildTold names) (map shape_of (children_of k xs))
children_told names k [] all = all
children_told names k (x ∷ xs) all =
    cases (stands_in k x.place.parent) (children_told names k xs (All-tail (IsChildTold names) (shape_of x) (map shape_of xs) all))
  where
    cases : (b : Bool) → All (IsChildTold names) (map shape_of (children_of k xs))
        → All (IsChildTold names) (map shape_of (if b then x ∷ children_of k xs else children_of k xs))
    cases true more =
        All-cons (IsChildTold names) (shape_of x) (map shape_of (children_of k xs))
        (All-head (IsChildTold names) (shape_of x) (map shape_of xs) all) more
    cases false more = more

-- ---- one job

module _ (old new : List (List ℕ)) (grows : Grows old new) (ms : List Module) (spelled : All (IsSpelledUnder old) ms) where
  abbrev IsJobOf : (x : Instance) → List ChildShape → IsKnown turn_limit ms x → BuildJob → Type 0
  IsJobOf x within k j = job_view new j ≡ job_with old x within k.code (known_steps k)

  code_of : (x : Instance) (within : List ChildShape) (k : IsKnown turn_limit ms x) (j : BuildJob) → IsJobOf x within k j
      → j.module.value ≡ k.code
  code_of x within k j same = ap (λ (job : InstanceJob). job.module) same

  spelled_old : (x : Instance) (within : List ChildShape) (k : IsKnown turn_limit ms x) (j : BuildJob) → IsJobOf x within k j
      → IsSpelledUnder old j.module.value
  spelled_old x within k j same =
      subst (IsSpelledUnder old) (sym (code_of x within k j same))
      (module_in (IsSpelledUnder old) x.of_module.0 ms k.code spelled k.called)

  -- it has the steps of the visit
  steps_of : (x : Instance) (within : List ChildShape) (k : IsKnown turn_limit ms x) (j : BuildJob) → IsJobOf x within k j
      → job_steps j ≡ Ok (known_steps k)
  unfolding job_steps
  steps_of x within k j same =
      ap₂ (λ (m : Module) (values : List Const). steps_under (declaration_of m.body) values) (code_of x within k j same)
      (ap (λ (job : InstanceJob). job.parameters) same)
      ∙ steps_known ms x k

  -- its names are those of its steps by the later table too
  texts_so : (x : Instance) (within : List ChildShape) (k : IsKnown turn_limit ms x) (j : BuildJob) → IsJobOf x within k j
      → map (text_of new) j.names ≡ texts_within new (blocks_in (known_steps k)) [] (known_steps k)
  texts_so x within k j same =
      let steps = known_steps k in
      let all : All (IsStepNamed (IsNameIn old)) steps = steps_named (IsNameIn old) j steps
      (tree_in old j.module.value (spelled_old x within k j same)) (steps_of x within k j same) in
      ap (λ (job : InstanceJob). job.names) same
      ∙ sym (within_grown old new grows (blocks_in steps) [] steps (labels_in old new grows steps all) all)

  job_named : (x : Instance) (within : List ChildShape) (k : IsKnown turn_limit ms x) (j : BuildJob) → IsJobOf x within k j
      → (steps : List ModuleStep) → job_steps j ≡ Ok steps → map (text_of new) j.names ≡ texts_within new (blocks_in steps) [] steps
  job_named x within k j same steps is =
      texts_so x within k j same
      ∙ ap (λ (said : List ModuleStep). texts_within new (blocks_in said) [] said)
      (ok_same (known_steps k) steps (sym (steps_of x within k j same) ∙ is))

  as_many : (x : Instance) (within : List ChildShape) (k : IsKnown turn_limit ms x) (j : BuildJob) → IsJobOf x within k j
      → length j.parameters ≡ length (constants_of (declaration_of j.module.value.body))
  as_many x within k j same =
      ap (λ (job : InstanceJob). length job.parameters) same ∙ as_many_values ms x k
      ∙ ap (λ (m : Module). length (constants_of (declaration_of m.body))) (sym (code_of x within k j same))

  job_under : (x : Instance) (within : List ChildShape) (k : IsKnown turn_limit ms x) (j : BuildJob) → IsJobOf x within k j
      → IsClockTold new x.clock → All (IsChildTold new) within → HasNamesIn new j → IsJobUnder new j
  job_under x within k j same clock children names = record {
    spelled = grown_spelled old new grows j.module.value (spelled_old x within k j same);
    values = subst (λ (n : ℕ). length j.parameters ≤ n) (as_many x within k j same) (le_refl (length j.parameters));
    clock = subst (IsClockTold new) (sym (ap (λ (job : InstanceJob). job.clock) same)) clock;
    children = subst (All (IsChildTold new)) (sym (ap (λ (job : InstanceJob). job.children) same)) children;
    within = names;
    named = job_named x within k j same;
  }

  -- ---- the jobs of a tree

  under_from : (all : List Instance) (n : ℕ) (xs : List Instance) (are : Each (IsKnown turn_limit ms) xs) (js : List BuildJob)
      → All (IsChildTold new) (map shape_of all) → All (IsChildTold new) (map shape_of xs) → All (HasNamesIn new) js
      → map (job_view new) js ≡ jobs_known old ms all n xs are → All (IsJobUnder new) js
  under_from all n xs are [] told told_xs names same = All-nil (IsJobUnder new)
  under_from all n [] are (j ∷ js) told told_xs names same = absurd cc
  under_from all n (x ∷ xs) are (j ∷ js) told told_xs names same =
      let within = map shape_of (children_of n all) in
      let job = job_with old x within are.0.code (known_steps are.0) in
      let jobs = jobs_known old ms all (suc n) xs are.1 in
      All-cons (IsJobUnder new) j js
      (job_under x within are.0 j (same_first (job_view new j) job (map (job_view new) js) jobs same)
      (All-head (IsChildTold new) (shape_of x) (map shape_of xs) told_xs).clock (children_told new n all told)
      (All-head (HasNamesIn new) j js names))
      (under_from all (suc n) xs are.1 js told (All-tail (IsChildTold new) (shape_of x) (map shape_of xs) told_xs)
      (All-tail (HasNamesIn new) j js names) (same_others (job_view new j) job (map (job_view new) js) jobs same))

-- ---- instances

module _ (old new : List (List ℕ)) (grows : Grows old new) where
  abbrev IsPortWord : PortShape → Type 0
  IsPortWord p = IsClockTold new (Some p.name)

  port_told : (table : Table) (n : Identifier) (p : PortShape) → port_of p ≡ port_outline table n → IsWordIn old n → IsPortWord p
  port_told table n p same h =
      let is : p.name.0 ≡ n.name.0 = ap (λ (o : PortOutline). o.name) same
      ∙ outline_name n (declared_as (record { block = None; name = n.name.0 }) table) in
      subst (λ (id : NameId). IsClockTold new (Some id)) (sym (same_id p.name n.name is)) (clock_grown old new grows (Some n.name) h)

  -- ports that are those of a header
  ports_told : (table : Table) (ns : List Identifier) (ps : List PortShape) → map port_of ps ≡ port_outlines ns table → All (IsWordIn old) ns
      → All IsPortWord ps
  ports_told table ns [] same words = All-nil IsPortWord
  ports_told table [] (p ∷ ps) same words = absurd cc
  ports_told table (n ∷ ns) (p ∷ ps) same words =
      let outlines = port_outlines ns table in
      All-cons IsPortWord p ps
      (port_told table n p (same_first (port_of p) (port_outline table n) (map port_of ps) outlines same)
      (All-head (IsWordIn old) n ns words))
      (ports_told table ns ps (same_others (port_of p) (port_outline table n) (map port_of ps) outlines same)
      (All-tail (IsWordIn old) n ns words))

  ports_named : (ps : List PortShape) → All IsPortWord ps → All (IsPortTold new) ps
  ports_named [] words = All-nil (IsPortTold new)
  ports_named (p ∷ ps) words =
      All-cons (IsPortTold new) p ps (All-head IsPortWord p ps words).0 (ports_named ps (All-tail IsPortWord p ps words))

  -- a clock that is one of the ports
  port_clock : (n : NameId) (ps : List PortShape) → is_port_name n.0 ps ≡ true → All IsPortWord ps → IsClockTold new (Some n)
  port_clock n [] is words = absurd cc
  port_clock n (p ∷ ps) is words =
      cases (p.name.0 == n.0) refl (λ behind. port_clock n ps behind (All-tail IsPortWord p ps words)) is
    where
      cases : (b : Bool) → (p.name.0 == n.0) ≡ b → (is_port_name n.0 ps ≡ true → IsClockTold new (Some n))
          → (if b then true else is_port_name n.0 ps) ≡ true → IsClockTold new (Some n)
      cases true same more here =
          subst (λ (id : NameId). IsClockTold new (Some id)) (same_id p.name n (eqb-true p.name.0 n.0 same)) (All-head IsPortWord p ps words)
      cases false same more behind = more behind

  own_clock : (clock : Option NameId) (ps : List PortShape) → HasOwnClock clock ps → All IsPortWord ps → IsClockTold new clock
  own_clock None ps is words = is
  own_clock (Some n) ps is words = port_clock n ps is words

  module _ (ms : List Module) (spelled : All (IsSpelledUnder old) ms) where
    shape_told : (x : Instance) (k : IsKnown turn_limit ms x) → IsInstanceTold new x → IsChildTold new (shape_of x)
    shape_told x k h =
        let m = declaration_of k.code.body in
        let words = ports_told k.visit.checks.declared (header_ports m.ports) x.ports
        (k.ports ∙ (visit_has turn_limit (declarations_of ms) k.most m k.overrides k.clock k.visit k.found).1)
        (ports_are_words old k.code (module_in (IsSpelledUnder old) x.of_module.0 ms k.code spelled k.called)) in
        record { instance = h.name; clock = own_clock x.clock x.ports h.clock words; ports = ports_named x.ports words }

    shapes_told : (xs : List Instance) → Each (IsKnown turn_limit ms) xs → All (IsInstanceTold new) xs → All (IsChildTold new) (map shape_of xs)
    shapes_told [] are told = All-nil (IsChildTold new)
    shapes_told (x ∷ xs) are told =
        All-cons (IsChildTold new) (shape_of x) (map shape_of xs) (shape_told x are.0 (All-head (IsInstanceTold new) x xs told))
        (shapes_told xs are.1 (All-tail (IsInstanceTold new) x xs told))

-- what unit_jobs makes of what elaboration gives
pub jobs_under : (l : Limits) (texts known_texts old new : List (List ℕ)) (ms : List Module) (name clock : ℕ) (xs : List Instance)
    (jobs : List InstanceJob) (js : List BuildJob) → All (IsSpelledUnder texts) ms → Grows known_texts new → All (IsSpelledUnder old) ms
    → Grows old new → l.turns ≡ turn_limit → tree l texts (declarations_of ms) name clock ≡ Ok (map (instance_view known_texts) xs)
    → tree_jobs old ms xs ≡ Ok jobs → map (job_view new) js ≡ jobs → All (HasNamesIn new) js → All (IsJobUnder new) js
unfolding tree_jobs
jobs_under l texts known_texts old new ms name clock xs jobs js named known_grows spelled grows turns is made seen names =
    let told = instances_told l texts known_texts new ms name clock xs named known_grows is in
    let s = seen_of l texts known_texts ms name clock xs is in
    let are = tree_known l texts known_texts ms name clock s.all xs turns s.elaborates s.same in
    let shapes = shapes_told old new grows ms spelled xs are told in
    under_from old new grows ms spelled xs 0 xs are js shapes shapes names
    (seen ∙ ok_same jobs (jobs_known old ms xs 0 xs are) (sym made ∙ are_jobs_known old ms xs 0 xs are))
