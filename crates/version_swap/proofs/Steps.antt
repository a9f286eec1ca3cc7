-- What the files of a version come to, by what its steps answer.
use Rattle.std.proofs.Common.{Global, ◌≡◌, ◌<◌, ℕ, true, List, [], ◌∷◌, ◌++◌, All, map, length, take, refl, sym, ◌∙◌, ap, subst, arith, inl, inr}
use Rattle.std.specs.Prelude.{Option, Result, Ok, Err}
use Rattle.std.specs.declared.sync.Arc.{Arc}
use Rattle.std.proofs.lemmas.List.{take-append-le}
use Rattle.std.proofs.Math.Path.{fun_ext}
use Rattle.std.proofs.Math.Seq.{take-length}
use Rattle.std.proofs.lemmas.List.Elements.{All-nil, All-cons, All-head, All-tail, All-weaker}
use Rattle.ls_text.specs.declared.at.At.{At}
use Rattle.ls_text.specs.declared.at.At.TheVariants.{Edit}
use Rattle.ls_text.specs.declared.fault.Fault.{Fault}
use Rattle.ls_text.specs.declared.name_id.NameId.{NameId}
use Rattle.ls_text.specs.declared.refusal.Refusal.{Refusal}
use Rattle.ls_text.specs.declared.refusal.Refusal.TheVariants as refusal
use Rattle.ls_text.specs.declared.source_file.SourceFile.{SourceFile}
use Rattle.ls_text.specs.Readings.{CanShow, TextFault, fault_view}
use Rattle.ls_text.specs.Texts.{Grows, text_at}
use Rattle.ls_text.proofs.Growth.{grows_none}
use Rattle.typed_ir.specs.Cycles.{Flat}
use Rattle.typed_ir.specs.declared.instance.Instance.{Instance}
use Rattle.typed_ir.specs.declared.unit.Unit.{Unit as ModuleUnit}
use Rattle.typed_ir.specs.Instances.{is_depth_first, parent_of}
use Rattle.typed_ir.specs.Shapes.{AreOf}
use Rattle.typed_ir.specs.Trees.{flat_of_tree}
use Rattle.link.specs.Listings.{all_parts}
use Rattle.module_registry.specs.declared.build_job.BuildJob.{BuildJob}
use Rattle.ls_text.specs.Answers.{◌>>=◌}
use Rattle.module_registry.specs.Building.{Built, built_all, Refuses}
use Rattle.module_registry.specs.Entries.{Entry, keys_of, is_among, missing, entries, ensured, MadeAt}
use Rattle.module_registry.specs.Jobs.{job_text}
use Rattle.module_registry.specs.Keys.{KeyData, jobs_of}
use Rattle.unit_build.specs.Building.{built}
use Rattle.version_swap.specs.Copies.{Copies}
use Rattle.version_swap.specs.Flat.{flat}
use Rattle.version_swap.specs.Held.{AreHeldUnder, AreUnder, HaveUnits, IsKeyUnder}
use Rattle.version_swap.specs.JobsUnder.{IsJobUnder}
use Rattle.state_layout.specs.Words.{IsTooMany}
use Rattle.version_swap.specs.DesignFaults.{CanRun, IsDesignFault, not_linked, too_wide, IsDesignOfUnits, IsRefusedOfUnits}
use Rattle.version_swap.specs.FirstKeys.{first_jobs, first_keys, key_of}
use Rattle.version_swap.specs.FoundUnder.{HasModuleIn, IsFoundUnder}
use Rattle.version_swap.specs.Made.{MadeBehind, no_more, those, out_of_memory}
use Rattle.version_swap.specs.Plans as plans
use Rattle.version_swap.specs.Plans.{AreCopies, IsPlanRefusal, Plans, too_many_fault}
use Rattle.version_swap.proofs.Firsts.{first_of_jobs, jobs_behind, texts_behind, first_all, first_jobs_all, all_held}
use Rattle.version_swap.proofs.ShownUnits.{design_shows, units_show}
use Rattle.version_swap.proofs.Linked.{are_under, jobs_under, units_stand, HasDesign, has_design}
use Rattle.version_swap.proofs.EnsuredUnits.{each_given, first_fault}
use Rattle.version_swap.proofs.GrownJobs.{grown_under}
use Rattle.version_swap.proofs.GrownTexts.{text_kept}
use Rattle.version_swap.proofs.HeldUnits.{ensured_held}

-- ---- 40 without names

abbrev viewed : ℕ → At → List NameId → List (List ℕ) → TextFault
viewed code at shown names = record { code = code; at = at; words = map (λ (id : NameId). text_at names id.0) shown }

wide_fault : (names : List (List ℕ)) (f : Fault) → IsTooMany (refusal.Fault f) → fault_view names f ≡ too_many_fault
wide_fault names f is =
    ap (λ (c : ℕ). viewed c f.at f.names names) is.0 ∙ ap (λ (a : At). viewed 40 a f.names names) is.1
    ∙ ap (λ (ids : List NameId). viewed 40 Edit ids names) is.2

-- too many files
pub many_planned : (names : List (List ℕ)) (xs files : List SourceFile) (name : Option NameId) (clock : NameId) (f : Fault) → xs ≡ files
    → 256 < length xs
    → fault_view names f ≡ too_many_fault → Plans names files name clock (Err (fault_view names f))
many_planned names xs files name clock f is many shown =
    subst (λ (t : TextFault). Plans names files name clock (Err t)) (sym shown)
    (plans.too_many (subst (λ (fs : List SourceFile). 256 < length fs) is many))

-- ---- what was held is held first

not_more : (es new : List Entry) (us : List Entry) → es ++ us ≡ new → take (length es) new ≡ es
not_more es new us is = ap (take (length es)) (sym is) ∙ take-append-le (length es) es us (omega arith) ∙ take-length es

begins_ensured : (es new : List Entry) (ks : List KeyData) (found : Result (List Built) Fault) → (found >>= λ us. Ok (es ++ entries ks us)) ≡ Ok new
    → take (length es) new ≡ es
begins_ensured es new ks (Ok us) is = let same : es ++ entries ks us ≡ new = cc in not_more es new (entries ks us) same
begins_ensured es new ks (Err f) is = absurd cc

pub first_held : (es new : List Entry) (ks : List KeyData) → ensured built es ks ≡ Ok new → take (length es) new ≡ es
first_held es new ks is = begins_ensured es new (missing (keys_of es) ks) (built_all built (jobs_of (missing (keys_of es) ks))) is

-- ---- keys under a table that has grown

pub keys_grown : (old new : List (List ℕ)) (grows : Grows old new) (ks : List KeyData) → All (IsKeyUnder old) ks → All (IsJobUnder old) (jobs_of ks)
    → All (IsKeyUnder new) ks
keys_grown old new grows [] keys jobs = All-nil (IsKeyUnder new)
keys_grown old new grows (k ∷ ks) keys jobs =
    let key = All-head (IsKeyUnder old) k ks keys in
    let job = All-head (IsJobUnder old) k.job (jobs_of ks) jobs in
    All-cons (IsKeyUnder new) k ks (record { text = key.text ∙ sym (text_kept old new grows k.job job); digest = key.digest })
    (keys_grown old new grows ks (All-tail (IsKeyUnder old) k ks keys) (All-tail (IsJobUnder old) k.job (jobs_of ks) jobs))

-- what is found of files, with the keys of its jobs and the first of these
pub record HasKeys (words : List (List ℕ)) (files : List SourceFile) (name : Option NameId) (clock : NameId) (xs : List Instance) (js : List BuildJob)
    (keys first : List KeyData) : Type 0 where
  pub known : IsFoundUnder words files name clock xs js
  pub are : keys ≡ map (key_of words) js
  pub firsts : first ≡ first_keys [] keys

pub has_keys : {words : List (List ℕ)} {files : List SourceFile} {name : Option NameId} {clock : NameId} {xs : List Instance} {js : List BuildJob}
    (keys slice first : List KeyData) → IsFoundUnder words files name clock xs js → slice ≡ keys → keys ≡ map (key_of words) js
    → first ≡ first_keys [] slice → HasKeys words files name clock xs js keys first
has_keys keys slice first known same are firsts = record { known = known; are = are; firsts = firsts ∙ ap (first_keys []) same }

module _ {words : List (List ℕ)} {files : List SourceFile} {name : Option NameId} {clock : NameId} {xs : List Instance} {js : List BuildJob}
    {keys first : List KeyData} (h : HasKeys words files name clock xs js keys first) where
  -- the first keys are those of the first jobs
  all_firsts : first ≡ first_keys [] (map (key_of words) js)
  all_firsts = h.firsts ∙ ap (first_keys []) h.are

  first_are : first ≡ map (key_of words) (first_jobs words [] js)
  first_are = all_firsts ∙ first_of_jobs words [] js

  first_of : jobs_of first ≡ first_jobs words [] js
  first_of = ap jobs_of first_are ∙ jobs_behind words (first_jobs words [] js)

  first_texts : map (λ (k : KeyData). k.text) first ≡ map (job_text words) (first_jobs words [] js)
  first_texts = ap (map (λ (k : KeyData). k.text)) first_are ∙ texts_behind words (first_jobs words [] js)

  first_under : All (IsKeyUnder words) first
  first_under =
      subst (All (IsKeyUnder words)) (sym h.firsts)
      (first_all (IsKeyUnder words) [] keys (All-nil (IsKeyUnder words)) (are_under words files name clock xs js h.known keys h.are))

  first_jobs_under : All (IsJobUnder words) (jobs_of first)
  first_jobs_under =
      subst (All (IsJobUnder words)) (sym first_of)
      (first_jobs_all words (IsJobUnder words) [] js (All-nil (IsJobUnder words)) (jobs_under words files name clock xs js h.known))

  pub keyed : (names : List (List ℕ)) → Grows words names → All (IsKeyUnder names) first
  keyed names grows = keys_grown words names grows first first_under first_jobs_under

  pub jobs_keyed : (names : List (List ℕ)) → Grows words names → All (IsJobUnder names) (jobs_of first)
  jobs_keyed names grows =
      All-weaker (IsJobUnder words) (IsJobUnder names) (λ (job : BuildJob) (is : IsJobUnder words job). grown_under words names job grows is)
      (jobs_of first) first_jobs_under

  -- what a forge made
  made_those : (held : List KeyData) (before after : List BuildJob) (slice : List KeyData) → slice ≡ first
      → after ≡ before ++ jobs_of (missing held slice) → after ≡ before ++ jobs_of (missing held (first_keys [] (map (key_of words) js)))
  made_those held before after slice same is = is ∙ ap (λ (ks : List KeyData). before ++ jobs_of (missing held ks)) (same ∙ all_firsts)

  pub made_more : (es : List Entry) → HaveUnits built es first → (held : List KeyData) (before after : List BuildJob) (slice : List KeyData)
      → slice ≡ first → after ≡ before ++ jobs_of (missing held slice) → (e : Refusal) → MadeBehind files name clock held before after e
  made_more es have held before after slice same is e =
      those h.known.found (ap (built_all built) (sym first_of) ∙ have.made) (made_those held before after slice same is)

  pub made_at : (held : List KeyData) (before after : List BuildJob) (slice : List KeyData) → slice ≡ first → (e : Refusal)
      → MadeAt e before (jobs_of (missing held slice)) after → MadeBehind files name clock held before after e
  made_at held before after slice same (refusal.Fault f) is = no_more is
  made_at held before after slice same refusal.NoMemory (inl is) = no_more is
  made_at held before after slice same refusal.NoMemory (inr is) = out_of_memory h.known.found (made_those held before after slice same is)

  module _ (es : List Entry) (held : AreHeldUnder words es) (builds : BuildJob → Result Built Fault) (so : (job : BuildJob) → builds job ≡ built job)
      (slice : List KeyData) (same : slice ≡ first) where
    -- as building itself ensures the first keys
    by_built : ensured builds es slice ≡ ensured built es first
    by_built = ap (λ (b : BuildJob → Result Built Fault). ensured b es slice) (fun_ext so) ∙ ap (ensured built es) same

    pub ensured_then : (new : List Entry) → ensured builds es slice ≡ Ok new → ensured built es first ≡ Ok new
    ensured_then new is = sym by_built ∙ is

    -- each has a unit then
    pub units_then : (new : List Entry) → ensured builds es slice ≡ Ok new → HaveUnits built new first
    units_then new is = each_given words built es first refl h.known.known.once held first_under first_jobs_under new (ensured_then new is)

    -- the registry holds units as before, and those that came in
    pub held_then : (new : List Entry) → ensured builds es slice ≡ Ok new → AreHeldUnder words new
    held_then new is = ensured_held words built es new first refl held first_under first_jobs_under (ensured_then new is)

    -- a unit has a fault
    unit_fault : (f : Fault) → ensured builds es slice ≡ Err f → built_all built (first_jobs words [] js) ≡ Err f
    unit_fault f is =
        ap (built_all built) (sym first_of)
        ∙ first_fault words built es first refl h.known.known.once held first_under first_jobs_under f (sym by_built ∙ is)

    pub unit_refused : (e : Refusal) → Refuses e (ensured builds es slice) → IsPlanRefusal words files name clock e
    unit_refused (refusal.Fault f) is = plans.at_unit h.known.found (grows_none words) (unit_fault f is)
    unit_refused refusal.NoMemory is = tt

    pub unit_known : (e : Refusal) → Refuses e (ensured builds es slice) → CanShow (length words) e
    unit_known (refusal.Fault f) is =
        units_show words (first_jobs words [] js) f
        (first_jobs_all words (IsJobUnder words) [] js (All-nil (IsJobUnder words)) (jobs_under words files name clock xs js h.known))
        (first_jobs_all words (HasModuleIn words) [] js (All-nil (HasModuleIn words)) h.known.modules) (unit_fault f is)
    unit_known refusal.NoMemory is = tt

  module _ (es : List Entry) (held : AreHeldUnder words es) (slice : List KeyData) (same : slice ≡ first)
      (among : All (λ (k : KeyData). is_among k (keys_of es) ≡ true) slice) where
    first_among : All (λ (k : KeyData). is_among k (keys_of es) ≡ true) first
    first_among = subst (All (λ (k : KeyData). is_among k (keys_of es) ≡ true)) same among

    pub all_among : (others : List KeyData) → others ≡ keys → All (λ (k : KeyData). is_among k (keys_of es) ≡ true) others
    all_among others is =
        subst (All (λ (k : KeyData). is_among k (keys_of es) ≡ true)) (sym is)
        (all_held (keys_of es) [] keys (subst (All (λ (k : KeyData). is_among k (keys_of es) ≡ true)) h.firsts first_among))

    pub they_stand : (others : List KeyData) → others ≡ keys → (units : List (Arc ModuleUnit Global)) → AreUnder es others units
        → AreOf xs 0 xs (all_parts units)
    they_stand others is units under =
        units_stand words files name clock xs js h.known keys h.are es held units (subst (λ (ks : List KeyData). AreUnder es ks units) is under)

    module _ (have : HaveUnits built es first) (tree_first : is_depth_first (map parent_of xs) ≡ true) (names : List (List ℕ))
        (grows : Grows words names) (others : List KeyData)
        (is : others ≡ keys) where
      abbrev Design : List (Arc ModuleUnit Global) → Type 0
      Design units = HasDesign words files name clock xs js h.known keys h.are es held units

      design_of : (units : List (Arc ModuleUnit Global)) → AreUnder es others units → Design units
      design_of units under =
          has_design words files name clock xs js h.known keys h.are es held tree_first units
          (subst (λ (ks : List KeyData). AreUnder es ks units) is under)

      copies_there : (units : List (Arc ModuleUnit Global)) → (d : Design units)
          → AreCopies words files name clock (map (λ (k : KeyData). k.text) first) d.copies
      copies_there units d =
          record {
            xs = xs;
            js = js;
            found = h.known.found;
            units = have.units;
            made = ap (built_all built) (sym first_of) ∙ have.made;
            texts = first_texts;
            are_copies = d.are_copies;
          }

      -- the design is made
      pub design_planned : (design : Flat) → IsDesignOfUnits xs es others design
          → Plans names files name clock (Ok (record { design = design; keys = map (λ (k : KeyData). k.text) first }))
      design_planned design y =
          let d = design_of y.units y.are in
          let l = y.linked d.tree d.is in
          let can = subst CanRun d.linked l.1 in
          subst (λ (g : Flat). Plans names files name clock (Ok (record { design = g; keys = map (λ (k : KeyData). k.text) first })))
          (sym (l.0 ∙ d.linked)) (plans.made (copies_there y.units d) grows can.linked can.small)

      refused_by : (copies : Copies) → AreCopies words files name clock (map (λ (k : KeyData). k.text) first) copies → (f : Fault)
          → IsDesignFault words names (flat copies) (refusal.Fault f) → Plans names files name clock (Err (fault_view names f))
      refused_by copies there f (not_linked fault) = plans.at_link there grows fault
      refused_by copies there f (too_wide linked wide fault) =
          subst (λ (t : TextFault). Plans names files name clock (Err t)) (sym (wide_fault names f fault)) (plans.too_wide there grows linked wide)

      -- linking has a fault, or the registers take too much room
      pub design_refused : (e : Refusal) → IsRefusedOfUnits words names xs es others e → IsPlanRefusal names files name clock e
      design_refused (refusal.Fault f) y =
          let d = design_of y.units y.are in
          refused_by d.copies (copies_there y.units d) f
          (subst (λ (g : Flat). IsDesignFault words names g (refusal.Fault f)) d.linked (y.refused d.tree d.is))
      design_refused refusal.NoMemory y = tt

      pub design_known : (e : Refusal) → IsRefusedOfUnits words names xs es others e → CanShow (length names) e
      design_known (refusal.Fault f) y =
          let d = design_of y.units y.are in
          design_shows words names (flat_of_tree d.tree) f (y.refused d.tree d.is)
      design_known refusal.NoMemory y = tt
