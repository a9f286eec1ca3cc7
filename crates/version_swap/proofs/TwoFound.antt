-- What two readings of one version's files find: the same instances and the same jobs, by the names of one table.
use Rattle.std.proofs.Common.{◌≡◌, ◌∙◌, ℕ, ◌==◌, ◌<◌, Bool, true, false, if◌then◌else◌, List, [], ◌∷◌, All, length, map, refl, sym, ap, ap₂, subst}
use Rattle.std.specs.Prelude.{Option, Some, Result, Ok}
use Rattle.std.specs.List.{AllZip}
use Rattle.std.proofs.lemmas.List.Elements.{All-nil, All-cons, All-head, All-tail, All-weaker}
use Rattle.std.proofs.lemmas.Option.{same_Some}
use Rattle.ls_text.specs.declared.fault.Fault.{Fault}
use Rattle.ls_text.specs.declared.name_id.NameId.{NameId}
use Rattle.ls_text.proofs.Lists.{same_first, same_others}
use Rattle.verilog_ast.specs.declared.module.Module.{Module}
use Rattle.verilog_ast.specs.Items.{ModuleDeclaration}
use Rattle.verilog_ast.specs.Renaming.{declaration_as}
use Rattle.verilog_ast.specs.Views.{declaration_of, declarations_of}
use Rattle.gen_unroll.proofs.Answered.{ok_same}
use Rattle.typed_ir.specs.declared.instance.Instance.{Instance}
use Rattle.elaborate.specs.Elaborated.{Standing, elaborated}
use Rattle.elaborate.specs.Trees.{all_seen}
use Rattle.elaborate.specs.TreeViews.{instance_view, language_limits}
use Rattle.module_registry.specs.declared.build_job.BuildJob.{BuildJob}
use Rattle.unit_jobs.specs.Jobs.{InstanceJob, module_called, tree_jobs}
use Rattle.ls_text.specs.TextViews.{text_of}
use Rattle.unit_jobs.specs.JobViews.{job_view}
use Rattle.elaborate.specs.Findings.{standing_as}
use Rattle.elaborate.specs.Renaming.{KeepsApart, SpellsSame, number_as}
use Rattle.elaborate.proofs.RenamedNames.{same_test}
use Rattle.version_swap.specs.Jobs.{IsModuleAs, instance_as, IsJobAs, AreJobsAs}
use Rattle.version_swap.proofs.RenamedJobs.{same_jobs}
use Rattle.version_swap.specs.InstancesTold.{IsInstanceTold}
use Rattle.version_swap.specs.JobsUnder.{IsIn, IsJobUnder}
use Rattle.version_swap.proofs.SameUnits.{ids_same}
use Rattle.version_swap.proofs.AlikeModules.{spelling_of}
use Rattle.version_swap.proofs.GrownFound.{FoundIn, told_of}
use Rattle.version_swap.proofs.JobParts.{IsJobFrom, jobs_are_from}
use Rattle.version_swap.proofs.JointTable.{Joint}
use Rattle.version_swap.proofs.RenamedInstances.{found_as_so, listed_as, instances_same}
use Rattle.version_swap.proofs.TwinJobs.{IsTwin}

-- ---- modules that are the same under other names

zip_as : (f : NameId → NameId) (ns ms : List Module) → declarations_of ms ≡ map (declaration_as f) (declarations_of ns)
    → AllZip (IsModuleAs f) ns ms
zip_as f [] [] same = tt
zip_as f [] (m ∷ ms) same = absurd cc
zip_as f (n ∷ ns) [] same = absurd cc
zip_as f (n ∷ ns) (m ∷ ms) same =
    let one = declaration_of m.body in
    let other = declaration_as f (declaration_of n.body) in (
      same_first one other (declarations_of ms) (map (declaration_as f) (declarations_of ns)) same,
      zip_as f ns ms (same_others one other (declarations_of ms) (map (declaration_as f) (declarations_of ns)) same),
    )

-- the modules of one name have one spelling
module _ (f : NameId → NameId) (apart : KeepsApart f) (name : NameId) (x y : Module) where
  choose : (b c : Bool) (m n : Module) (p q : Option Module) → b ≡ c → m.spelling ≡ n.spelling
      → (p ≡ Some x → q ≡ Some y → x.spelling ≡ y.spelling) → (if b then Some m else p) ≡ Some x → (if c then Some n else q) ≡ Some y
      → x.spelling ≡ y.spelling
  choose true true m n p q same one later here there =
      ap spelling_of (sym (same_Some m x here)) ∙ one ∙ ap spelling_of (same_Some n y there)
  choose false false m n p q same one later here there = later here there
  choose true false m n p q same one later here there = absurd cc
  choose false true m n p q same one later here there = absurd cc

  called_spelled : (ns ms : List Module) → AllZip (IsModuleAs f) ns ms → map spelling_of ms ≡ map spelling_of ns
      → module_called (f name).0 ms ≡ Some x → module_called name.0 ns ≡ Some y → x.spelling ≡ y.spelling
  called_spelled [] [] zip spelled here there = absurd cc
  called_spelled [] (m ∷ ms) zip spelled here there = absurd zip
  called_spelled (n ∷ ns) [] zip spelled here there = absurd zip
  called_spelled (n ∷ ns) (m ∷ ms) zip spelled here there =
      choose ((f name).0 == m.body.name.name.0) (name.0 == n.body.name.name.0) m n (module_called (f name).0 ms) (module_called name.0 ns)
      (ap (λ (d : ModuleDeclaration). (f name).0 == d.name.name.0) zip.0 ∙ same_test f name n.body.name.name apart)
      (same_first m.spelling n.spelling (map spelling_of ms) (map spelling_of ns) spelled)
      (called_spelled ns ms zip.1 (same_others m.spelling n.spelling (map spelling_of ms) (map spelling_of ns) spelled)) here there

-- ---- names

module _ (f : NameId → NameId) (texts others : List (List ℕ)) (spells : SpellsSame f texts others) where
  texts_so : (ns : List NameId) → map (text_of others) (map f ns) ≡ map (text_of texts) ns
  texts_so [] = refl
  texts_so (n ∷ ns) = ap₂ (λ (t : List ℕ) (ts : List (List ℕ)). t ∷ ts) (spells n) (texts_so ns)

abbrev Answer : Type 0
Answer = Result (List InstanceJob) Fault

both_ok : (f : NameId → NameId) (r q : Answer) (a b : List InstanceJob) → r ≡ Ok a → q ≡ Ok b → AreJobsAs f r q → AllZip (IsJobAs f) a b
both_ok f r q a b one other are =
    subst (λ (p : Answer). AreJobsAs f (Ok a) p) other (subst (λ (p : Answer). AreJobsAs f p q) one are)

-- ---- what both find

module _ {names others : List (List ℕ)} (j : Joint names others) {ms ns : List Module} {top clock name net : ℕ} {xs ys : List Instance}
    {js ks : List BuildJob} {all also : List Standing} (h : FoundIn j.table ms top clock xs js all) (d : FoundIn others ns name net ys ks also)
    (trees : declarations_of ms ≡ map (declaration_as j.name) (declarations_of ns)) (spelled : map spelling_of ms ≡ map spelling_of ns)
    (alike : elaborated language_limits (declarations_of ms) top clock
    ≡ elaborated language_limits (declarations_of ms) (number_as j.name name) (number_as j.name net)) where
  pub all_same : all ≡ map (standing_as j.name) also
  all_same =
      ok_same all (map (standing_as j.name) also)
      (sym h.found ∙ alike
      ∙ ap (λ (ds : List ModuleDeclaration). elaborated language_limits ds (number_as j.name name) (number_as j.name net)) trees
      ∙ found_as_so j.name others j.table j.apart j.spells (declarations_of ns) name net also d.found)

  pub listed_so : map (instance_view j.table) (map (instance_as j.name) ys) ≡ all_seen j.table all
  listed_so =
      listed_as j.name others j.table j.apart j.spells (declarations_of ns) name net also d.found ys d.listed
      ∙ ap (all_seen j.table) (sym all_same)

  abbrev HasName : Instance → Type 0
  HasName x = x.place.name.0 < length j.table

  names_in : (zs : List Instance) → All (IsInstanceTold others) zs → All HasName (map (instance_as j.name) zs)
  names_in [] told = All-nil HasName
  names_in (z ∷ zs) told =
      All-cons HasName (instance_as j.name z) (map (instance_as j.name) zs)
      (j.within z.place.name (All-head (IsInstanceTold others) z zs told).name.within)
      (names_in zs (All-tail (IsInstanceTold others) z zs told))

  pub instances_so : xs ≡ map (instance_as j.name) ys
  instances_so =
      instances_same j.table j.once xs (map (instance_as j.name) ys)
      (All-weaker (IsInstanceTold j.table) HasName (λ (x : Instance) (told : IsInstanceTold j.table x). told.name.within) xs (told_of h))
      (names_in ys (told_of d)) (h.listed ∙ sym listed_so)

  zip : AllZip (IsModuleAs j.name) ns ms
  zip = zip_as j.name ns ms trees

  jobs_as : AllZip (IsJobAs j.name) (map (job_view others) ks) (map (job_view j.table) js)
  jobs_as =
      both_ok j.name (tree_jobs others ns ys) (tree_jobs j.table ms (map (instance_as j.name) ys)) (map (job_view others) ks)
      (map (job_view j.table) js) d.jobs (ap (tree_jobs j.table ms) (sym instances_so) ∙ h.jobs)
      (same_jobs j.name others j.table ns ms ys j.apart j.spells zip)

  -- ---- job by job

  ids_in : (ids : List NameId) → All (IsIn others) ids → All (IsIn j.table) (map j.name ids)
  ids_in [] within = All-nil (IsIn j.table)
  ids_in (n ∷ ids) within =
      All-cons (IsIn j.table) (j.name n) (map j.name ids) (j.within n (All-head (IsIn others) n ids within))
      (ids_in ids (All-tail (IsIn others) n ids within))

  twin : (y : Instance) (b a : BuildJob) → IsJobFrom others ns y (job_view others b)
      → IsJobFrom j.table ms (instance_as j.name y) (job_view j.table a)
      → IsJobAs j.name (job_view others b) (job_view j.table a) → IsJobUnder others b → IsJobUnder j.table a → IsTwin j.name b a
  twin y b a own made is under_b under_a = record {
    tree = is.of_module;
    spelling = ap spelling_of made.of_code
        ∙ called_spelled j.name j.apart y.of_module made.code own.code ns ms zip spelled made.called own.called
        ∙ ap spelling_of (sym own.of_code);
    parameters = is.parameters;
    clock = is.clock;
    children = is.children;
    names = ids_same j.table a.names (map j.name b.names) j.once under_a.within (ids_in b.names under_b.within)
        (is.names ∙ sym (texts_so j.name others j.table j.spells b.names));
  }

  all_twins : (zs : List Instance) (bs es : List BuildJob) → AllZip (IsJobFrom others ns) zs (map (job_view others) bs)
      → AllZip (IsJobFrom j.table ms) (map (instance_as j.name) zs) (map (job_view j.table) es)
      → AllZip (IsJobAs j.name) (map (job_view others) bs) (map (job_view j.table) es) → All (IsJobUnder others) bs → All (IsJobUnder j.table) es
      → AllZip (IsTwin j.name) bs es
  all_twins zs [] [] own made are under_b under_e = tt
  all_twins zs [] (e ∷ es) own made are under_b under_e = absurd are
  all_twins zs (b ∷ bs) [] own made are under_b under_e = absurd are
  all_twins [] (b ∷ bs) (e ∷ es) own made are under_b under_e = absurd own
  all_twins (z ∷ zs) (b ∷ bs) (e ∷ es) own made are under_b under_e = (
    twin z b e own.0 made.0 are.0 (All-head (IsJobUnder others) b bs under_b) (All-head (IsJobUnder j.table) e es under_e),
    all_twins zs bs es own.1 made.1 are.1 (All-tail (IsJobUnder others) b bs under_b) (All-tail (IsJobUnder j.table) e es under_e),
  )

  pub twins : AllZip (IsTwin j.name) ks js
  twins =
      all_twins ys ks js (jobs_are_from others ns ys (map (job_view others) ks) d.jobs)
      (subst (λ (zs : List Instance). AllZip (IsJobFrom j.table ms) zs (map (job_view j.table) js)) instances_so
      (jobs_are_from j.table ms xs (map (job_view j.table) js) h.jobs))
      jobs_as d.under h.under
