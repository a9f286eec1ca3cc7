-- Once keys are ensured, each has a unit; and where that fails, the fault is the first among all the jobs, since the job of a key that is held has
-- none.
use Rattle.std.proofs.Common.{◌≡◌, ℕ, Bool, true, false, cond, List, [], ◌∷◌, ◌++◌, All, map, Some, Result, Ok, Err}
use Rattle.std.proofs.Common.{refl, sym, ap, ap₂, subst, ◌∙◌}
use Rattle.std.proofs.lemmas.List.Elements.{All-head, All-tail}
use Rattle.ls_text.specs.declared.fault.Fault.{Fault}
use Rattle.ls_text.specs.Texts.{HasEachOnce}
use Rattle.module_registry.specs.declared.build_job.BuildJob.{BuildJob}
use Rattle.ls_text.specs.Answers.{◌>>=◌}
use Rattle.ls_text.proofs.Lists.{same_first, same_others}
use Rattle.module_registry.specs.Building.{Built, built_all}
use Rattle.module_registry.specs.Entries.{Entry, keys_of, is_among, missing, entries, ensured, unit_under}
use Rattle.module_registry.specs.KeyLaws.{same_laws}
use Rattle.module_registry.specs.Keys.{KeyData, same, jobs_of}
use Rattle.module_registry.proofs.Making.{all_held}
use Rattle.unit_build.specs.Building.{built}
use Rattle.version_swap.specs.Held.{IsKeyUnder, AreHeldUnder, HaveUnits}
use Rattle.version_swap.specs.JobsUnder.{IsJobUnder}
use Rattle.version_swap.proofs.HeldUnits.{ensured_held, unit_of_job}

-- ---- equal keys

-- are given the same unit
pub alike_given : (es : List Entry) (h k : KeyData) → same h k ≡ true → unit_under h es ≡ unit_under k es
alike_given [] h k is = refl
alike_given (e ∷ es) h k is =
    ap₂ (λ b u. cond b (Some e.unit) u) (same_laws.congr h k e.key is) (alike_given es h k is)

-- ---- a key that is held

record IsGiven (k : KeyData) (es : List Entry) : Type 0 where
  unit : Built
  is : unit_under k es ≡ Some unit

given : (k : KeyData) (es : List Entry) → is_among k (keys_of es) ≡ true → IsGiven k es
given k [] among = absurd cc
given k (e ∷ es) among = cases (same k e.key) refl among (given k es)
  where
    cases : (b : Bool) → same k e.key ≡ b → cond b true (is_among k (keys_of es)) ≡ true
        → (is_among k (keys_of es) ≡ true → IsGiven k es) → IsGiven k (e ∷ es)
    cases true is h later = record { unit = e.unit; is = ap (λ (b : Bool). cond b (Some e.unit) (unit_under k es)) is }
    cases false is h later =
        record { unit = (later h).unit; is = ap (λ (b : Bool). cond b (Some e.unit) (unit_under k es)) is ∙ (later h).is }

-- a key that is the same as one of these
pub among_given : (es : List Entry) (ks : List KeyData) (us : List Built) (k : KeyData) → map (λ (x : KeyData). unit_under x es) ks ≡ map Some us
    → is_among k ks ≡ true → (u : Built) × (unit_under k es ≡ Some u)
among_given es [] us k are among = absurd cc
among_given es (h ∷ ks) [] k are among = absurd cc
among_given es (h ∷ ks) (u ∷ us) k are among =
    let P = λ (x : KeyData). unit_under x es in
    cases (same k h) refl among (same_first (P h) (Some u) (map P ks) (map Some us) are)
    (among_given es ks us k (same_others (P h) (Some u) (map P ks) (map Some us) are))
  where
    cases : (b : Bool) → same k h ≡ b → cond b true (is_among k ks) ≡ true → unit_under h es ≡ Some u
        → (is_among k ks ≡ true → (v : Built) × (unit_under k es ≡ Some v)) → (v : Built) × (unit_under k es ≡ Some v)
    cases true is here first later = (u, alike_given es k h is ∙ first)
    cases false is here first later = later here

-- ---- the first fault

-- a first unit and the rest of them
abbrev both : Result Built Fault → Result (List Built) Fault → Result (List Built) Fault
both first rest = first >>= λ u. rest >>= λ us. Ok (u ∷ us)

-- a fault among the rest comes after the first unit
later_fault : (first : Result Built Fault) (some all : Result (List Built) Fault) (f : Fault) → (some ≡ Err f → all ≡ Err f)
    → both first some ≡ Err f → both first all ≡ Err f
later_fault (Err g) some all f later is = is
later_fault (Ok u) (Err g) all f later is =
    let same : g ≡ f = cc in
    ap (both (Ok u)) (later (ap Err same))
later_fault (Ok u) (Ok us) all f later is = absurd cc

-- refused units have a fault
refused_so : (found : Result (List Built) Fault) (es : List Entry) (ks : List KeyData) (f : Fault)
    → (found >>= λ us. Ok (es ++ entries ks us)) ≡ Err f → found ≡ Err f
refused_so (Err g) es ks f is = let same : g ≡ f = cc in ap Err same
refused_so (Ok us) es ks f is = absurd cc

module _ (names : List (List ℕ)) (once : HasEachOnce names) (es : List Entry) (h : AreHeldUnder names es) where
  -- the job of a key that is held has a unit, and no fault
  built_so : (k : KeyData) (g : IsGiven k es) → IsKeyUnder names k → IsJobUnder names k.job → built k.job ≡ Ok g.unit
  built_so k g key job = unit_of_job names once es k k.job g.unit h job key.text g.is

  one_fault : (k : KeyData) (ks ms : List KeyData) (f : Fault) (b : Bool) → is_among k (keys_of es) ≡ b → IsKeyUnder names k
      → IsJobUnder names k.job → (built_all built (jobs_of ms) ≡ Err f → built_all built (jobs_of ks) ≡ Err f)
      → built_all built (jobs_of (cond b [] (k ∷ []) ++ ms)) ≡ Err f → built_all built (jobs_of (k ∷ ks)) ≡ Err f
  one_fault k ks ms f true among key job later is =
      let g = given k es among in
      ap₂ both (built_so k g key job) (later is)
  one_fault k ks ms f false among key job later is =
      later_fault (built k.job) (built_all built (jobs_of ms)) (built_all built (jobs_of ks)) f later is

  all_faults : (ks : List KeyData) (f : Fault) → All (IsKeyUnder names) ks → All (IsJobUnder names) (jobs_of ks)
      → built_all built (jobs_of (missing (keys_of es) ks)) ≡ Err f → built_all built (jobs_of ks) ≡ Err f
  all_faults [] f keys jobs is = is
  all_faults (k ∷ ks) f keys jobs is =
      one_fault k ks (missing (keys_of es) ks) f (is_among k (keys_of es)) refl (All-head (IsKeyUnder names) k ks keys)
      (All-head (IsJobUnder names) k.job (jobs_of ks) jobs)
      (all_faults ks f (All-tail (IsKeyUnder names) k ks keys) (All-tail (IsJobUnder names) k.job (jobs_of ks) jobs)) is

  -- ---- each key has its unit

  all_given : (ks : List KeyData) → All (λ (k : KeyData). is_among k (keys_of es) ≡ true) ks → All (IsKeyUnder names) ks
      → All (IsJobUnder names) (jobs_of ks) → HaveUnits built es ks
  all_given [] among keys jobs = record { units = []; made = refl; under = refl }
  all_given (k ∷ ks) among keys jobs =
      let P = λ (x : KeyData). is_among x (keys_of es) ≡ true in
      let g = given k es (All-head P k ks among) in
      let rest = all_given ks (All-tail P k ks among) (All-tail (IsKeyUnder names) k ks keys)
      (All-tail (IsJobUnder names) k.job (jobs_of ks) jobs) in
      record {
        units = g.unit ∷ rest.units;
        made = ap₂ both
            (built_so k g (All-head (IsKeyUnder names) k ks keys) (All-head (IsJobUnder names) k.job (jobs_of ks) jobs)) rest.made;
        under = ap₂ (λ u us. u ∷ us) g.is rest.under;
      }

-- ---- with a forge that builds so

module _ (names : List (List ℕ)) (builds : BuildJob → Result Built Fault) (es : List Entry) (keys : List KeyData) (so : builds ≡ built)
    (once : HasEachOnce names) (h : AreHeldUnder names es) (made : All (IsKeyUnder names) keys) (jobs : All (IsJobUnder names) (jobs_of keys)) where
  pub first_fault : (f : Fault) → ensured builds es keys ≡ Err f → built_all builds (jobs_of keys) ≡ Err f
  first_fault f is =
      let ms = missing (keys_of es) keys in
      let here = sym (ap (λ (b : BuildJob → Result Built Fault). ensured b es keys) so) ∙ is in
      ap (λ (b : BuildJob → Result Built Fault). built_all b (jobs_of keys)) so
      ∙ all_faults names once es h keys f made jobs (refused_so (built_all built (jobs_of ms)) es ms f here)

  given_by : (new : List Entry) (found : Result (List Built) Fault) → AreHeldUnder names new
      → built_all built (jobs_of (missing (keys_of es) keys)) ≡ found
      → (found >>= λ us. Ok (es ++ entries (missing (keys_of es) keys) us)) ≡ Ok new → HaveUnits built new keys
  given_by new (Err f) held units is = absurd cc
  given_by new (Ok us) held units is =
      let ms = missing (keys_of es) keys in
      let new_is : es ++ entries ms us ≡ new = cc in
      all_given names once new held keys (all_held built es new keys ms ms us us units refl refl refl (sym new_is)) made jobs

  pub each_given : (new : List Entry) → ensured builds es keys ≡ Ok new → HaveUnits builds new keys
  each_given new is =
      let ms = missing (keys_of es) keys in
      let here = sym (ap (λ (b : BuildJob → Result Built Fault). ensured b es keys) so) ∙ is in
      subst (λ (b : BuildJob → Result Built Fault). HaveUnits b new keys) (sym so)
      (given_by new (built_all built (jobs_of ms)) (ensured_held names builds es new keys so h made jobs is) refl here)
