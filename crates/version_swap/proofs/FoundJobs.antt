-- The instances of the design of files and their jobs, by what the steps before units answer.
use Rattle.std.proofs.Common.{◌≡◌, ◌<◌, ℕ, Bool, true, false, cond, ◌==◌, List, [], ◌∷◌, All, length, map, Result, Ok, Err, refl, sym, ap, ◌∙◌, subst}
use Rattle.std.specs.Prelude.{Option, Some, None, ◌≤◌}
use Rattle.std.proofs.lemmas.Bool.{eqb-true}
use Rattle.std.proofs.lemmas.List.Elements.{All-head, All-tail, All-weaker}
use Rattle.ls_text.specs.declared.fault.Fault.{Fault}
use Rattle.ls_text.specs.declared.name_id.NameId.{NameId}
use Rattle.ls_text.specs.declared.refusal.Refusal.{Refusal}
use Rattle.ls_text.specs.declared.refusal.Refusal.TheVariants as refusal
use Rattle.ls_text.specs.declared.source_file.SourceFile.{SourceFile}
use Rattle.ls_text.specs.Readings.{CanShow, fault_view}
use Rattle.ls_text.specs.Texts.{Grows, HasEachOnce, text_at}
use Rattle.ls_text.proofs.Growth.{grown_id, grown_text, grows_on}
use Rattle.verilog_ast.specs.declared.module.Module.{Module}
use Rattle.verilog_ast.specs.NamesWithin.{names_in_declaration, names_in_modules}
use Rattle.verilog_ast.specs.Items.{ModuleDeclaration}
use Rattle.verilog_ast.specs.Views.{declaration_of, declarations_of}
use Rattle.module_names.specs.Modules.{module_named}
use Rattle.typed_ir.specs.declared.instance.Instance.{Instance}
use Rattle.elaborate.specs.Elaborated.{Standing, elaborated}
use Rattle.elaborate.specs.Trees.{TreeInstance, all_seen, tree}
use Rattle.elaborate.specs.TreeViews.{instance_view, language_limits}
use Rattle.ls_text.specs.Answers.{Answers, ◌>>=◌}
use Rattle.module_registry.specs.declared.build_job.BuildJob.{BuildJob}
use Rattle.unit_jobs.specs.Jobs.{InstanceJob, tree_jobs}
use Rattle.unit_jobs.specs.JobViews.{job_view}
use Rattle.version_swap.specs.InstancesTold.{HasNamesIn}
use Rattle.version_swap.specs.JobsUnder.{IsIn}
use Rattle.version_swap.specs.Spelled.{IsSpelledUnder}
use Rattle.version_swap.specs.Founds.{AreModules, IsReadRefusal, IsTop, HasModules}
use Rattle.version_swap.specs.FoundUnder.{IsNumberOf, HasModuleIn, IsFoundUnder}
use Rattle.version_swap.specs.Plans as plans
use Rattle.version_swap.specs.Plans.{IsPlanRefusal, Plans}
use Rattle.version_swap.proofs.JobModules.{each_named, modules_of_jobs}
use Rattle.version_swap.proofs.ShownNames.{tree_shows}
use Rattle.version_swap.proofs.TreeJobs.{language_turns, seen_of, tree_has_jobs}
use Rattle.version_swap.proofs.InstanceTexts.{IsNameWord}
use Rattle.version_swap.proofs.OneTable.{seen_by_one}
use Rattle.version_swap.proofs.ToldInstances.{modules_named}
use Rattle.version_swap.proofs.TreeNames.{IsModuleNamed}

-- ---- the texts are refused

pub text_planned : (names : List (List ℕ)) (files : List SourceFile) (name : Option NameId) (clock : NameId) → length files ≤ 256 → (e : Refusal)
    → IsReadRefusal names files e → IsPlanRefusal names files name clock e
text_planned names files name clock few (refusal.Fault f) is = plans.at_text few is
text_planned names files name clock few refusal.NoMemory is = tt

-- ---- the number of the top

-- no module is called by the empty text
none_called : (names : List (List ℕ)) (n : ℕ) (ds : List ModuleDeclaration) → All (IsModuleNamed (IsNameWord names)) ds → text_at names n ≡ []
    → module_named n ds ≡ None
none_called names n [] named empty = refl
none_called names n (d ∷ ds) named empty =
    cases (none_called names n ds (All-tail (IsModuleNamed (IsNameWord names)) d ds named) empty) (n == d.name.name.0) refl
  where
    cases : module_named n ds ≡ None → (b : Bool) → (n == d.name.name.0) ≡ b → cond b (Some d) (module_named n ds) ≡ None
    cases rest true is =
        absurd ((All-head (IsModuleNamed (IsNameWord names)) d ds named).0.some (ap (text_at names) (sym (eqb-true n d.name.name.0 is)) ∙ empty))
    cases rest false is = rest

top_is : (old names : List (List ℕ)) (name : Option NameId) (n : ℕ) (ms : List Module) → IsNumberOf old name n → Grows old names
    → All (IsSpelledUnder names) ms → IsTop name (declarations_of ms) n
top_is old names (Some name) n ms is grows spelled = is
top_is old names None n ms is grows spelled =
    none_called names n (declarations_of ms) (modules_named names ms spelled) (grown_text old names n grows is.0 ∙ is.1)

-- ---- what is known once the modules are read

module _ (before texts : List (List ℕ)) (files : List SourceFile) (name : Option NameId) (clock : NameId) (ms : List Module) (n : ℕ)
    (few : length files ≤ 256)
    (read : AreModules texts files ms) (spelled : All (IsSpelledUnder texts) ms)
    (named : All (λ (id : NameId). id.0 < length texts) (names_in_modules ms)) (number : IsNumberOf before name n) (grew : Grows before texts) where
  has_modules : HasModules texts files name ms n
  has_modules = record { few = few; modules = read; is_top = top_is before texts name n ms number grew spelled }

  -- elaboration is refused
  not_elaborated : (known : List (List ℕ)) (f : Fault) → tree language_limits texts (declarations_of ms) n clock.0 ≡ Err f
      → elaborated language_limits (declarations_of ms) n clock.0 ≡ Err f
  unfolding tree
  not_elaborated known f is = cases (elaborated language_limits (declarations_of ms) n clock.0) is
    where
      cases : (r : Result (List Standing) Fault) → (r >>= λ all. Ok (all_seen texts all)) ≡ Err f → r ≡ Err f
      cases (Ok all) is = absurd cc
      cases (Err e) is = cc

  tree_refused : (known : List (List ℕ)) → Grows texts known → (f : Fault) → tree language_limits texts (declarations_of ms) n clock.0 ≡ Err f
      → Plans known files name clock (Err (fault_view known f))
  tree_refused known grows f is = plans.at_tree has_modules grows (not_elaborated known f is)

  -- a refusal of elaboration, which was handed the modules as a slice
  pub tree_planned : {A : Type 0} (view : A → List TreeInstance) (slice : List Module) (known : List (List ℕ)) → slice ≡ ms → Grows texts known
      → (e : Refusal) → Answers (Err e) view (tree language_limits texts (declarations_of slice) n clock.0) → IsPlanRefusal known files name clock e
  tree_planned view slice known same grows (refusal.Fault f) is =
      tree_refused known grows f
      (subst (λ (zs : List Module). tree language_limits texts (declarations_of zs) n clock.0 ≡ Err f) same is)
  tree_planned view slice known same grows refusal.NoMemory is = tt

  -- and shows names of the table
  pub tree_known : {A : Type 0} (view : A → List TreeInstance) (slice : List Module) (known : List (List ℕ)) → slice ≡ ms → Grows texts known
      → n < length before → clock.0 < length before → (e : Refusal)
      → Answers (Err e) view (tree language_limits texts (declarations_of slice) n clock.0) → CanShow (length known) e
  tree_known view slice known same grows top_in clock_in (refusal.Fault f) is =
      All-weaker (λ (id : NameId). id.0 < length texts) (λ (id : NameId). id.0 < length known) (λ id lt. grown_id texts known id.0 grows lt) f.names
      (tree_shows (length texts) language_limits ms n clock.0 f named (grown_id before texts n grew top_in)
      (grown_id before texts clock.0 grew clock_in)
      (not_elaborated known f
      (subst (λ (zs : List Module). tree language_limits texts (declarations_of zs) n clock.0 ≡ Err f) same is)))
  tree_known view slice known same grows top_in clock_in refusal.NoMemory is = tt

  module _ (known : List (List ℕ)) (xs : List Instance) (grown : Grows texts known)
      (is : tree language_limits texts (declarations_of ms) n clock.0 ≡ Ok (map (instance_view known) xs)) where
    -- jobs are never refused
    jobs_there : (f : Fault) → tree_jobs known ms xs ≡ Err f → ⊥
    jobs_there f refused =
        let there = tree_has_jobs language_limits texts known known ms n clock.0 xs language_turns is in
        let both : Ok there.0 ≡ Err f = sym there.1 ∙ refused in cc

    pub jobs_planned : {A : Type 0} (view : A → List InstanceJob) (names : List (List ℕ)) (e : Refusal)
        → Answers (Err e) view (tree_jobs known ms xs) → IsPlanRefusal names files name clock e
    jobs_planned view names (refusal.Fault f) is = absurd (jobs_there f is)
    jobs_planned view names refusal.NoMemory is = tt

    pub jobs_known : {A : Type 0} (view : A → List InstanceJob) (count : ℕ) (e : Refusal) → Answers (Err e) view (tree_jobs known ms xs)
        → CanShow count e
    jobs_known view count (refusal.Fault f) is = absurd (jobs_there f is)
    jobs_known view count refusal.NoMemory is = tt

    -- the names in the modules of jobs
    modules_in : (names : List (List ℕ)) (js : List BuildJob) → Grows known names → tree_jobs known ms xs ≡ Ok (map (job_view names) js)
        → All (HasModuleIn names) js
    modules_in names js grows jobs =
        modules_of_jobs (λ (m : Module). All (IsIn names) (names_in_declaration (declaration_of m.body))) known ms
        (each_named (IsIn names) ms (All-weaker (λ (id : NameId). id.0 < length texts) (IsIn names)
        (λ id lt. grown_id texts names id.0 (grows_on texts known names grown grows) lt) (names_in_modules ms) named))
        names xs js jobs

    pub is_found : (names : List (List ℕ)) (js : List BuildJob) → Grows known names → tree_jobs known ms xs ≡ Ok (map (job_view names) js)
        → All (HasNamesIn names) js → HasEachOnce names → IsFoundUnder names files name clock xs js
    is_found names js grows jobs within once =
        let s = seen_of language_limits texts known ms n clock.0 xs is in
        record {
          found = record {
            texts = texts;
            known = known;
            ms = ms;
            top = n;
            all = s.all;
            has = has_modules;
            found = s.elaborates;
            listed = seen_by_one language_limits texts known names ms grown grows spelled n clock.0 s.all xs s.elaborates s.same;
            jobs = jobs;
            grown = grown;
            grows = grows;
          };
          known = record {
            spelled = spelled;
            elaborated = is;
            jobs = jobs;
            within = within;
            grown = grown;
            grows = grows;
            once = once;
          };
          seen = s.same;
          modules = modules_in names js grows jobs;
        }
