-- The first of jobs of each text, and their texts, are the same by each table that the table of the jobs grows to.
use Rattle.std.proofs.Common.{◌≡◌, ◌∙◌, ℕ, List, [], ◌∷◌, All, map, refl, ap, ap₂}
use Rattle.std.specs.Prelude.{if◌then◌else◌, Bool, true, false, ◌++◌}
use Rattle.std.specs.Str.{bytes_eq}
use Rattle.std.proofs.lemmas.List.Elements.{All-nil, All-cons, All-head, All-tail, All-append}
use Rattle.ls_text.specs.Texts.{Grows}
use Rattle.module_registry.specs.declared.build_job.BuildJob.{BuildJob}
use Rattle.module_registry.specs.Jobs.{job_text}
use Rattle.version_swap.specs.JobsUnder.{IsJobUnder}
use Rattle.version_swap.proofs.GrownTexts.{text_kept}
use Rattle.version_swap.specs.FirstKeys.{is_text_among, with_job, first_jobs}

module _ (old new : List (List ℕ)) (grows : Grows old new) where
  abbrev AreUnder : List BuildJob → Type 0
  AreUnder js = All (IsJobUnder old) js

  among_grown : (text : List ℕ) (js : List BuildJob) → AreUnder js → is_text_among new text js ≡ is_text_among old text js
  among_grown text [] under = refl
  among_grown text (j ∷ js) under =
      ap₂ (λ (other : List ℕ) (more : Bool). if bytes_eq text other then true else more)
      (text_kept old new grows j (All-head (IsJobUnder old) j js under)) (among_grown text js (All-tail (IsJobUnder old) j js under))

  with_grown : (js : List BuildJob) (j : BuildJob) → AreUnder js → IsJobUnder old j → with_job new js j ≡ with_job old js j
  with_grown js j under is =
      ap (λ (b : Bool). if b then js else js ++ j ∷ [])
      (ap (λ (text : List ℕ). is_text_among new text js) (text_kept old new grows j is) ∙ among_grown (job_text old j) js under)

  with_under : (js : List BuildJob) (j : BuildJob) → AreUnder js → IsJobUnder old j → AreUnder (with_job old js j)
  with_under js j under is = by (is_text_among old (job_text old j) js)
    where
      by : (b : Bool) → AreUnder (if b then js else js ++ j ∷ [])
      by true = under
      by false = All-append (IsJobUnder old) js (j ∷ []) under (All-cons (IsJobUnder old) j [] is (All-nil (IsJobUnder old)))

  pub first_grown : (js ks : List BuildJob) → AreUnder js → AreUnder ks → first_jobs new js ks ≡ first_jobs old js ks
  first_grown js [] first under = refl
  first_grown js (k ∷ ks) first under =
      let is = All-head (IsJobUnder old) k ks under in
      ap (λ (bs : List BuildJob). first_jobs new bs ks) (with_grown js k first is)
      ∙ first_grown (with_job old js k) ks (with_under js k first is) (All-tail (IsJobUnder old) k ks under)

  pub first_under : (js ks : List BuildJob) → AreUnder js → AreUnder ks → AreUnder (first_jobs old js ks)
  first_under js [] first under = first
  first_under js (k ∷ ks) first under =
      first_under (with_job old js k) ks (with_under js k first (All-head (IsJobUnder old) k ks under)) (All-tail (IsJobUnder old) k ks under)

  pub texts_grown : (js : List BuildJob) → AreUnder js → map (job_text new) js ≡ map (job_text old) js
  texts_grown [] under = refl
  texts_grown (j ∷ js) under =
      ap₂ (λ (t : List ℕ) (ts : List (List ℕ)). t ∷ ts) (text_kept old new grows j (All-head (IsJobUnder old) j js under))
      (texts_grown js (All-tail (IsJobUnder old) j js under))
