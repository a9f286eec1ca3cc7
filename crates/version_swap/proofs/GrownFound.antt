-- What is found of files, by one table of names: that of its jobs, and each that it grows to.
use Rattle.std.proofs.Common.{◌≡◌, ◌∙◌, ℕ, suc, ◌==◌, Bool, true, false, if◌then◌else◌, List, [], ◌∷◌, All, map, refl, sym, ap, ap₂, subst}
use Rattle.std.specs.Prelude.{Option, Some, Result, Ok, Err}
use Rattle.std.specs.List.{AllZip}
use Rattle.std.proofs.lemmas.List.Elements.{All-nil, All-cons, All-head, All-tail, All-weaker}
use Rattle.ls_text.specs.declared.fault.Fault.{Fault}
use Rattle.ls_text.specs.declared.name_id.NameId.{NameId}
use Rattle.ls_text.specs.declared.source_file.SourceFile.{SourceFile}
use Rattle.ls_text.specs.Texts.{Grows, HasEachOnce}
use Rattle.ls_text.proofs.Growth.{grown_text, grows_on, grows_none}
use Rattle.verilog_ast.specs.declared.module.Module.{Module}
use Rattle.verilog_ast.specs.Items.{ModuleDeclaration}
use Rattle.verilog_ast.specs.Views.{declaration_of, declarations_of}
use Rattle.typed_ir.specs.declared.child_shape.ChildShape.{ChildShape}
use Rattle.typed_ir.specs.declared.instance.Instance.{Instance}
use Rattle.typed_ir.specs.Shapes.{children_of, shape_of}
use Rattle.gen_unroll.specs.Steps.{ModuleStep, blocks_in}
use Rattle.ls_text.specs.Answers.{◌>>=◌}
use Rattle.elaborate.specs.Elaborated.{Standing, elaborated}
use Rattle.elaborate.specs.Trees.{all_seen, tree}
use Rattle.elaborate.specs.TreeViews.{instance_view, language_limits}
use Rattle.module_registry.specs.declared.build_job.BuildJob.{BuildJob}
use Rattle.unit_jobs.specs.Jobs.{InstanceJob, module_called, steps_under, job_with, jobs_from, tree_jobs}
use Rattle.ls_text.specs.TextViews.{text_of}
use Rattle.unit_jobs.specs.JobViews.{job_view}
use Rattle.unit_jobs.proofs.InRows.{job_found}
use Rattle.version_swap.specs.InstancesTold.{IsInstanceTold, HasNamesIn}
use Rattle.version_swap.specs.JobsUnder.{IsIn, IsJobUnder}
use Rattle.version_swap.specs.Spelled.{IsSpelledUnder}
use Rattle.version_swap.proofs.GrownJobs.{grown_under, labels_in, within_grown}
use Rattle.version_swap.proofs.GrownSpelling.{grown_spelled}
use Rattle.version_swap.proofs.HeldDesign.{jobs_are_under}
use Rattle.version_swap.proofs.InstanceTexts.{IsNameWord}
use Rattle.version_swap.proofs.OneTable.{seen_by_one}
use Rattle.version_swap.proofs.Parsed.{parsed_spelled}
use Rattle.version_swap.proofs.ToldInstances.{instances_told, modules_named}
use Rattle.version_swap.proofs.TreeNames.{IsModuleNamed, IsNameIn, tree_in}
use Rattle.version_swap.specs.Founds.{AreModules, AreFound}
use Rattle.version_swap.proofs.SomeTexts.{ids_in, texts_some}
use Rattle.version_swap.proofs.JobParts.{IsJobFrom, jobs_are_from, steps_are_named}
use Rattle.version_swap.proofs.ModulesRead.{AreTokens}
use Rattle.version_swap.proofs.NamedTokens.{are_tokens}

-- ---- modules

pub tokens_of : {names : List (List ℕ)} {files : List SourceFile} {ms : List Module} (h : AreModules names files ms)
    → AreTokens names files h.tokens
tokens_of {names} {files} h = are_tokens names files h.tokens h.read

pub spelled_of : {names : List (List ℕ)} {files : List SourceFile} {ms : List Module} → AreModules names files ms → All (IsSpelledUnder names) ms
spelled_of {names} {files} {ms} h =
    let t = tokens_of h in parsed_spelled names files t.reads.0 h.tokens ms t.reads.1 t.named t.ends h.stands

pub all_spelled : (old new : List (List ℕ)) (ms : List Module) → Grows old new → All (IsSpelledUnder old) ms → All (IsSpelledUnder new) ms
all_spelled old new ms grows spelled =
    All-weaker (IsSpelledUnder old) (IsSpelledUnder new) (λ (m : Module) (is : IsSpelledUnder old m). grown_spelled old new grows m is) ms spelled

-- ---- jobs are the same by a table that has grown

module _ (old new : List (List ℕ)) (grows : Grows old new) where
  steps_so : (x : Instance) (within : List ChildShape) (m : Module) (r : Result (List ModuleStep) Fault) → IsSpelledUnder old m
      → steps_under (declaration_of m.body) x.parameters ≡ r
      → (r >>= λ steps. Ok (job_with old x within m steps)) ≡ (r >>= λ steps. Ok (job_with new x within m steps))
  steps_so x within m (Err f) spelled is = refl
  steps_so x within m (Ok steps) spelled is =
      let named = steps_are_named (IsNameIn old) (declaration_of m.body) x.parameters steps (tree_in old m spelled) is in
      ap (λ (texts : List (List ℕ)). Ok (the_job texts))
      (sym (within_grown old new grows (blocks_in steps) [] steps (labels_in old new grows steps named) named))
    where
      the_job : List (List ℕ) → InstanceJob
      the_job texts = record { «module» = m; parameters = x.parameters; clock = x.clock; children = within; names = texts }

  choice_so : (x : Instance) (within : List ChildShape) (b : Bool) (m : Module) (rest : Option Module) → IsSpelledUnder old m
      → job_found old x within rest ≡ job_found new x within rest
      → job_found old x within (if b then Some m else rest) ≡ job_found new x within (if b then Some m else rest)
  choice_so x within true m rest is later = steps_so x within m (steps_under (declaration_of m.body) x.parameters) is refl
  choice_so x within false m rest is later = later

  found_so : (x : Instance) (within : List ChildShape) (ms : List Module) → All (IsSpelledUnder old) ms
      → job_found old x within (module_called x.of_module.0 ms) ≡ job_found new x within (module_called x.of_module.0 ms)
  found_so x within [] all = refl
  found_so x within (m ∷ ms) all =
      choice_so x within (x.of_module.0 == m.body.name.name.0) m (module_called x.of_module.0 ms) (All-head (IsSpelledUnder old) m ms all)
      (found_so x within ms (All-tail (IsSpelledUnder old) m ms all))

  each_so : (ms : List Module) (xs : List Instance) (k : ℕ) (rest : List Instance) → All (IsSpelledUnder old) ms
      → jobs_from old ms xs k rest ≡ jobs_from new ms xs k rest
  each_so ms xs k [] spelled = refl
  each_so ms xs k (x ∷ rest) spelled =
      ap₂ (λ (r : Result InstanceJob Fault) (more : Result (List InstanceJob) Fault). r >>= λ j. more >>= λ js. Ok (j ∷ js))
      (found_so x (map shape_of (children_of k xs)) ms spelled) (each_so ms xs (suc k) rest spelled)

  pub jobs_so : (ms : List Module) (xs : List Instance) → All (IsSpelledUnder old) ms → tree_jobs old ms xs ≡ tree_jobs new ms xs
  unfolding tree_jobs
  jobs_so ms xs spelled = each_so ms xs 0 xs spelled

  names_so : (ns : List NameId) → All (IsIn old) ns → map (text_of new) ns ≡ map (text_of old) ns
  names_so [] all = refl
  names_so (n ∷ ns) all =
      ap₂ (λ (t : List ℕ) (ts : List (List ℕ)). t ∷ ts) (grown_text old new n.0 grows (All-head (IsIn old) n ns all))
      (names_so ns (All-tail (IsIn old) n ns all))

  view_so : (j : BuildJob) → All (IsIn old) j.names → job_view old j ≡ job_view new j
  view_so j all = ap the_view (sym (names_so j.names all))
    where
      the_view : List (List ℕ) → InstanceJob
      the_view texts = record { «module» = j.module.value; parameters = j.parameters; clock = j.clock; children = j.children; names = texts }

  pub views_so : (js : List BuildJob) → All (IsJobUnder old) js → map (job_view old) js ≡ map (job_view new) js
  views_so [] all = refl
  views_so (j ∷ js) all =
      ap₂ (λ (v : InstanceJob) (vs : List InstanceJob). v ∷ vs) (view_so j (All-head (IsJobUnder old) j js all).within)
      (views_so js (All-tail (IsJobUnder old) j js all))

-- ---- names of jobs are in the table

module _ (names : List (List ℕ)) (ms : List Module) (spelled : All (IsSpelledUnder names) ms) where
  abbrev IsWordy : Module → Type 0
  IsWordy m = IsModuleNamed (IsNameWord names) (declaration_of m.body)

  all_wordy : (ns : List Module) → All (IsModuleNamed (IsNameWord names)) (declarations_of ns) → All IsWordy ns
  all_wordy [] all = All-nil IsWordy
  all_wordy (n ∷ ns) all =
      All-cons IsWordy n ns (All-head (IsModuleNamed (IsNameWord names)) (declaration_of n.body) (declarations_of ns) all)
      (all_wordy ns (All-tail (IsModuleNamed (IsNameWord names)) (declaration_of n.body) (declarations_of ns) all))

  called_wordy : (name : ℕ) (ns : List Module) (m : Module) → All IsWordy ns → module_called name ns ≡ Some m → IsWordy m
  called_wordy name [] m all is = absurd cc
  called_wordy name (n ∷ ns) m all is = cases (name == n.body.name.name.0) (called_wordy name ns m (All-tail IsWordy n ns all)) is
    where
      cases : (b : Bool) → (module_called name ns ≡ Some m → IsWordy m) → (if b then Some n else module_called name ns) ≡ Some m → IsWordy m
      cases true later here = let same : n ≡ m = cc in subst IsWordy same (All-head IsWordy n ns all)
      cases false later here = later here

  one_within : (x : Instance) (j : BuildJob) → IsJobFrom names ms x (job_view names j) → HasNamesIn names j
  one_within x j h =
      let wordy = called_wordy x.of_module.0 ms h.code (all_wordy ms (modules_named names ms spelled)) h.called in
      ids_in names j.names
      (subst (All (λ (text : List ℕ). text ≡ [] → ⊥)) (sym h.named)
      (texts_some names (blocks_in h.steps) [] h.steps
      (steps_are_named (IsNameWord names) (declaration_of h.code.body) x.parameters h.steps wordy.1 h.unrolled)))

  all_within : (xs : List Instance) (js : List BuildJob) → AllZip (IsJobFrom names ms) xs (map (job_view names) js) → All (HasNamesIn names) js
  all_within xs [] h = All-nil (HasNamesIn names)
  all_within [] (j ∷ js) h = absurd h
  all_within (x ∷ xs) (j ∷ js) h = All-cons (HasNamesIn names) j js (one_within x j h.0) (all_within xs js h.1)

-- ---- what is found, by one table

pub record FoundIn (names : List (List ℕ)) (ms : List Module) (top clock : ℕ) (xs : List Instance) (js : List BuildJob) (all : List Standing)
    : Type 0 where
  pub spelled : All (IsSpelledUnder names) ms
  pub found : elaborated language_limits (declarations_of ms) top clock ≡ Ok all
  pub listed : map (instance_view names) xs ≡ all_seen names all
  pub jobs : tree_jobs names ms xs ≡ Ok (map (job_view names) js)
  pub under : All (IsJobUnder names) js

pub tree_of : (names : List (List ℕ)) (ds : List ModuleDeclaration) (top clock : ℕ) (all : List Standing)
    → elaborated language_limits ds top clock ≡ Ok all
    → tree language_limits names ds top clock ≡ Ok (all_seen names all)
unfolding tree
tree_of names ds top clock all found = ap (λ (r : Result (List Standing) Fault). r >>= λ ss. Ok (all_seen names ss)) found

module _ {words : List (List ℕ)} {files : List SourceFile} {name : Option NameId} {clock : NameId} {xs : List Instance} {js : List BuildJob}
    (h : AreFound words files name clock xs js) (once : HasEachOnce words) where
  spelled_here : All (IsSpelledUnder words) h.ms
  spelled_here = all_spelled h.texts words h.ms (grows_on h.texts h.known words h.grown h.grows) (spelled_of h.has.modules)

  jobs_here : tree_jobs words h.ms xs ≡ Ok (map (job_view words) js)
  jobs_here = sym (jobs_so h.known words h.grows h.ms xs (all_spelled h.texts h.known h.ms h.grown (spelled_of h.has.modules))) ∙ h.jobs

  pub found_here : FoundIn words h.ms h.top clock.0 xs js h.all
  found_here = record {
    spelled = spelled_here;
    found = h.found;
    listed = h.listed;
    jobs = jobs_here;
    under = jobs_are_under words words words h.ms h.top clock.0 xs js
        (record {
          spelled = spelled_here;
          elaborated = tree_of words (declarations_of h.ms) h.top clock.0 h.all h.found ∙ ap Ok (sym h.listed);
          jobs = jobs_here;
          within = all_within words h.ms spelled_here xs js (jobs_are_from words h.ms xs (map (job_view words) js) jobs_here);
          grown = grows_none words;
          grows = grows_none words;
          once = once;
        });
  }

module _ {old new : List (List ℕ)} {ms : List Module} {top clock : ℕ} {xs : List Instance} {js : List BuildJob} {all : List Standing}
    (grows : Grows old new) (h : FoundIn old ms top clock xs js all) where
  pub found_grown : FoundIn new ms top clock xs js all
  found_grown = record {
    spelled = all_spelled old new ms grows h.spelled;
    found = h.found;
    listed = seen_by_one language_limits old old new ms (grows_none old) grows h.spelled top clock all xs h.found h.listed;
    jobs = sym (jobs_so old new grows ms xs h.spelled) ∙ h.jobs ∙ ap Ok (views_so old new grows js h.under);
    under = All-weaker (IsJobUnder old) (IsJobUnder new) (λ (j : BuildJob) (is : IsJobUnder old j). grown_under old new j grows is) js h.under;
  }

-- the names of its instances are in the table
pub told_of : {names : List (List ℕ)} {ms : List Module} {top clock : ℕ} {xs : List Instance} {js : List BuildJob} {all : List Standing}
    → FoundIn names ms top clock xs js all → All (IsInstanceTold names) xs
told_of {names} {ms} {top} {clock} {xs} {js} {all} h =
    instances_told language_limits names names names ms top clock xs h.spelled (grows_none names)
    (tree_of names (declarations_of ms) top clock all h.found ∙ ap Ok (sym h.listed))
