-- What a registry holds under a table of names stays so, and gives the units of jobs.
use Rattle.std.proofs.Common.{◌≡◌, ℕ, Bool, true, false, ◌&&◌, cond, List, [], ◌∷◌, ◌++◌, All, take, Some, Result, Ok, Err}
use Rattle.std.proofs.Common.{refl, sym, ap, ap₂, subst, ◌∙◌}
use Rattle.std.specs.Global.{Global}
use Rattle.std.specs.List.{AllZip}
use Rattle.std.specs.Str.{bytes_eq}
use Rattle.std.specs.declared.sync.Arc.{Arc}
use Rattle.std.proofs.lemmas.Bool.{and_parts}
use Rattle.std.proofs.lemmas.List.Elements.{All-nil, All-cons, All-head, All-tail, All-append, All-take, All-weaker}
use Rattle.std.proofs.lemmas.Option.{same_Some}
use Rattle.std.proofs.lemmas.Slice.Eq.{bytes_eq-Decides}
use Rattle.sha2.specs.Sha256.{sha256}
use Rattle.ls_text.specs.declared.fault.Fault.{Fault}
use Rattle.ls_text.specs.Texts.{Grows, HasEachOnce}
use Rattle.typed_ir.specs.declared.unit.Unit.{Unit as ModuleUnit}
use Rattle.link.specs.Listings.{all_parts}
use Rattle.module_registry.specs.declared.build_job.BuildJob.{BuildJob}
use Rattle.ls_text.specs.Answers.{◌>>=◌}
use Rattle.module_registry.specs.Building.{Built, built_all}
use Rattle.module_registry.specs.Entries.{Entry, keys_of, is_among, if_missing, missing, entries, ensured, unit_under}
use Rattle.module_registry.specs.Jobs.{job_text}
use Rattle.module_registry.specs.Keys.{KeyData, same, jobs_of}
use Rattle.module_registry.specs.KeyLaws.{same_laws}
use Rattle.module_registry.specs.UnitViews.{shared_unit}
use Rattle.module_registry.proofs.Making.{more_hold}
use Rattle.unit_build.specs.Building.{built}
use Rattle.version_swap.specs.JobUnits.{IsUnitOf}
use Rattle.version_swap.specs.Held.{IsKeyUnder, IsHeldUnder, AreHeldUnder, AreUnder}
use Rattle.version_swap.specs.JobsUnder.{IsJobUnder}
use Rattle.version_swap.proofs.GrownJobs.{grown_under}
use Rattle.version_swap.proofs.GrownTexts.{text_kept}
use Rattle.version_swap.proofs.SameUnits.{one_unit}

-- ---- lists of keys

-- what holds of keys holds of those that are missing
if_all : (P : KeyData → Type 0) (k : KeyData) (held : Bool) → P k → All P (cond held [] (k ∷ []))
if_all P k true is = All-nil P
if_all P k false is = All-cons P k [] is (All-nil P)

missing_all : (P : KeyData → Type 0) (held ks : List KeyData) → All P ks → All P (missing held ks)
missing_all P held [] all = All-nil P
missing_all P held (k ∷ ks) all =
    All-append P (if_missing held k) (missing held ks) (if_all P k (is_among k held) (All-head P k ks all))
    (missing_all P held ks (All-tail P k ks all))

-- and of those that come in with units
entries_all : (P : KeyData → Type 0) (ks : List KeyData) (us : List Built) → All P ks → All (λ (e : Entry). P e.key) (entries ks us)
entries_all P [] us all = All-nil (λ (e : Entry). P e.key)
entries_all P (k ∷ ks) [] all = All-nil (λ (e : Entry). P e.key)
entries_all P (k ∷ ks) (u ∷ us) all =
    All-cons (λ (e : Entry). P e.key) (record { key = k; unit = u }) (entries ks us) (All-head P k ks all)
    (entries_all P ks us (All-tail P k ks all))

-- ---- what is held stays so

-- a key as it is made of a job
pub key_under : (names : List (List ℕ)) (job : BuildJob) (k : KeyData) → k.text ≡ job_text names job → k.digest ≡ sha256 k.text → k.job ≡ job
    → IsKeyUnder names k
key_under names job k text digest is = record { text = text ∙ ap (job_text names) (sym is); digest = digest }

module _ (names : List (List ℕ)) where
  abbrev IsKeyHeld : KeyData → Type 0
  IsKeyHeld k = IsKeyUnder names k × IsJobUnder names k.job

  abbrev IsBuilt : Entry → Type 0
  IsBuilt e = built e.key.job ≡ Ok e.unit

  keys_held : (ks : List KeyData) → All (IsKeyUnder names) ks → All (IsJobUnder names) (jobs_of ks) → All IsKeyHeld ks
  keys_held [] keys jobs = All-nil IsKeyHeld
  keys_held (k ∷ ks) keys jobs =
      All-cons IsKeyHeld k ks
      (All-head (IsKeyUnder names) k ks keys, All-head (IsJobUnder names) k.job (jobs_of ks) jobs)
      (keys_held ks (All-tail (IsKeyUnder names) k ks keys) (All-tail (IsJobUnder names) k.job (jobs_of ks) jobs))

  both_held : (es : List Entry) → All (λ (e : Entry). IsKeyHeld e.key) es → All IsBuilt es → All (IsHeldUnder names) es
  both_held [] keys units = All-nil (IsHeldUnder names)
  both_held (e ∷ es) keys units =
      let key = All-head (λ (x : Entry). IsKeyHeld x.key) e es keys in
      All-cons (IsHeldUnder names) e es (record { key = key.0; job = key.1; unit = All-head IsBuilt e es units })
      (both_held es (All-tail (λ (x : Entry). IsKeyHeld x.key) e es keys) (All-tail IsBuilt e es units))

  pub none_held : (es : List Entry) → es ≡ [] → AreHeldUnder names es
  none_held es is = subst (AreHeldUnder names) (sym is) (record { each = All-nil (IsHeldUnder names) })

  pub same_held : (es new : List Entry) → AreHeldUnder names es → new ≡ es → AreHeldUnder names new
  same_held es new h is = subst (AreHeldUnder names) (sym is) h

  pub cut_held : (len : ℕ) (es new : List Entry) → AreHeldUnder names es → new ≡ take len es → AreHeldUnder names new
  cut_held len es new h is = same_held (take len es) new (record { each = All-take (IsHeldUnder names) len es h.each }) is

  -- units come in with missing keys
  more_held : (es : List Entry) (ks : List KeyData) (us : List Built) → AreHeldUnder names es → All IsKeyHeld ks
      → built_all built (jobs_of ks) ≡ Ok us → AreHeldUnder names (es ++ entries ks us)
  more_held es ks us h keys made = record {
    each = both_held (es ++ entries ks us)
        (All-append (λ (e : Entry). IsKeyHeld e.key) es (entries ks us)
        (All-weaker (IsHeldUnder names) (λ (e : Entry). IsKeyHeld e.key) (λ e is. (is.key, is.job)) es h.each)
        (entries_all IsKeyHeld ks us keys))
        (more_hold built es (es ++ entries ks us) ks ks us us made refl refl refl
        (record { each = All-weaker (IsHeldUnder names) IsBuilt (λ e is. is.unit) es h.each })).each;
  }

  ensured_by : (es new : List Entry) (ks : List KeyData) (found : Result (List Built) Fault) → AreHeldUnder names es → All IsKeyHeld ks
      → built_all built (jobs_of ks) ≡ found → (found >>= λ us. Ok (es ++ entries ks us)) ≡ Ok new → AreHeldUnder names new
  ensured_by es new ks (Ok us) h keys made is =
      let new_is : es ++ entries ks us ≡ new = cc in
      same_held (es ++ entries ks us) new (more_held es ks us h keys made) (sym new_is)
  ensured_by es new ks (Err f) h keys made is = absurd cc

  pub ensured_held : (builds : BuildJob → Result Built Fault) (es new : List Entry) (keys : List KeyData) → builds ≡ built
      → AreHeldUnder names es → All (IsKeyUnder names) keys → All (IsJobUnder names) (jobs_of keys)
      → ensured builds es keys ≡ Ok new → AreHeldUnder names new
  ensured_held builds es new keys so h made jobs is =
      let ms = missing (keys_of es) keys in
      ensured_by es new ms (built_all built (jobs_of ms)) h (missing_all IsKeyHeld (keys_of es) keys (keys_held keys made jobs)) refl
      (sym (ap (λ (b : BuildJob → Result Built Fault). ensured b es keys) so) ∙ is)

pub grown_held : (old new : List (List ℕ)) (es : List Entry) → Grows old new → AreHeldUnder old es → AreHeldUnder new es
grown_held old new es grows h = record {
  each = All-weaker (IsHeldUnder old) (IsHeldUnder new)
      (λ e is. record {
        key = record { text = is.key.text ∙ sym (text_kept old new grows e.key.job is.job); digest = is.key.digest };
        job = grown_under old new e.key.job grows is.job;
        unit = is.unit;
      })
      es h.each;
}

-- ---- what is given

-- equal keys have one text
one_text : (x y : KeyData) → same x y ≡ true → x.text ≡ y.text
one_text x y is = (bytes_eq-Decides x.text y.text).0 (and_parts (bytes_eq x.digest y.digest) (bytes_eq x.text y.text) is).1

-- keys of one text are equal
pub one_key : (names : List (List ℕ)) (x y : KeyData) → IsKeyUnder names x → IsKeyUnder names y → job_text names x.job ≡ job_text names y.job
    → same x y ≡ true
one_key names x y h g is =
    let texts : x.text ≡ y.text = h.text ∙ is ∙ sym g.text in
    let digests : x.digest ≡ y.digest = h.digest ∙ ap sha256 texts ∙ sym g.digest in
    ap₂ (λ (d t : List ℕ). bytes_eq x.digest d && bytes_eq x.text t) (sym digests) (sym texts) ∙ same_laws.refl x

module _ (names : List (List ℕ)) (once : HasEachOnce names) where
  module _ (k : KeyData) (job : BuildJob) (u : Built) (under : IsJobUnder names job) (text : k.text ≡ job_text names job) where
    held_for : (e : Entry) → IsHeldUnder names e → same k e.key ≡ true → e.unit ≡ u → built job ≡ Ok u
    held_for e h is unit =
        one_unit names e.key.job job u once h.job under (sym h.key.text ∙ sym (one_text k e.key is) ∙ text) (h.unit ∙ ap Ok unit)

    found_by : (e : Entry) (es : List Entry) (here : Bool) → IsHeldUnder names e → same k e.key ≡ here
        → cond here (Some e.unit) (unit_under k es) ≡ Some u → (unit_under k es ≡ Some u → built job ≡ Ok u) → built job ≡ Ok u
    found_by e es true h is found later = held_for e h is (same_Some e.unit u found)
    found_by e es false h is found later = later found

    found_in : (es : List Entry) → All (IsHeldUnder names) es → unit_under k es ≡ Some u → built job ≡ Ok u
    found_in [] all found = absurd cc
    found_in (e ∷ es) all found =
        found_by e es (same k e.key) (All-head (IsHeldUnder names) e es all) refl found
        (found_in es (All-tail (IsHeldUnder names) e es all))

  pub unit_of_job : (es : List Entry) (k : KeyData) (job : BuildJob) (u : Built) → AreHeldUnder names es → IsJobUnder names job
      → k.text ≡ job_text names job → unit_under k es ≡ Some u → built job ≡ Ok u
  unit_of_job es k job u h under text found = found_in k job u under text es h.each found

  pub units_of_jobs : (es : List Entry) (ks : List KeyData) (units : List (Arc ModuleUnit Global)) → AreHeldUnder names es
      → All (IsKeyUnder names) ks → All (IsJobUnder names) (jobs_of ks) → AreUnder es ks units → AllZip IsUnitOf (jobs_of ks) (all_parts units)
  units_of_jobs es [] [] h keys jobs are = tt
  units_of_jobs es [] (u ∷ us) h keys jobs are = absurd cc
  units_of_jobs es (k ∷ ks) [] h keys jobs are = absurd cc
  units_of_jobs es (k ∷ ks) (u ∷ us) h keys jobs are =
      let here : Some (shared_unit u) ≡ unit_under k es = cc in
      let rest : AreUnder es ks us = cc in (
        unit_of_job es k k.job (shared_unit u) h (All-head (IsJobUnder names) k.job (jobs_of ks) jobs)
            (All-head (IsKeyUnder names) k ks keys).text (sym here),
        units_of_jobs es ks us h (All-tail (IsKeyUnder names) k ks keys) (All-tail (IsJobUnder names) k.job (jobs_of ks) jobs) rest,
      )
