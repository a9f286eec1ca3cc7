-- The first of equal keys, and of jobs of one text.
use Rattle.std.proofs.Common.{◌≡◌, ℕ, Bool, true, false, cond, List, [], ◌∷◌, ◌++◌, All, map, refl, sym, ◌∙◌, ap, ap₂, true≢false}
use Rattle.std.proofs.lemmas.List.{map_push}
use Rattle.std.proofs.lemmas.List.Elements.{All-nil, All-cons, All-head, All-tail, All-push}
use Rattle.std.proofs.lemmas.Slice.Eq.{bytes_eq-Decides}
use Rattle.std.specs.Str.{bytes_eq}
use Rattle.std.specs.List.{list_any}
use Rattle.indexmap.specs.IndexSet.{insert_key}
use Rattle.sha2.specs.Sha256.{sha256}
use Rattle.ls_text.proofs.Cases.{cond_or}
use Rattle.typed_ir.proofs.Cases.{and_told}
use Rattle.module_registry.specs.declared.build_job.BuildJob.{BuildJob}
use Rattle.module_registry.specs.Entries.{is_among}
use Rattle.module_registry.specs.Jobs.{job_text}
use Rattle.module_registry.specs.KeyLaws.{same_laws}
use Rattle.module_registry.specs.Keys.{KeyData, same, jobs_of}
use Rattle.version_swap.specs.FirstKeys.{is_text_among, with_job, first_jobs, key_of, with_key, first_keys}

-- ---- a key that a set takes in

among_any : (k : KeyData) (ks : List KeyData) → list_any (same k) ks ≡ is_among k ks
among_any k [] = refl
among_any k (h ∷ hs) = sym (cond_or (same k h) (list_any (same k) hs)) ∙ ap (λ (b : Bool). cond (same k h) true b) (among_any k hs)

pub taken_in : (k copy : KeyData) (ks new : List KeyData) → copy ≡ k → new ≡ insert_key same ks copy → new ≡ with_key ks k
taken_in k copy ks new is_copy is =
    is ∙ ap (insert_key same ks) is_copy ∙ ap (λ (b : Bool). cond b ks (ks ++ k ∷ [])) (among_any k ks)

-- ---- keys of jobs are the same where the jobs have one text

same_digest : (a b : List ℕ) → bytes_eq a b ≡ true → bytes_eq (sha256 a) (sha256 b) ≡ true
same_digest a b is = (bytes_eq-Decides (sha256 a) (sha256 b)).1 (ap sha256 ((bytes_eq-Decides a b).0 is))

module _ (names : List (List ℕ)) where
  same_texts : (a b : BuildJob) → same (key_of names a) (key_of names b) ≡ bytes_eq (job_text names a) (job_text names b)
  same_texts a b =
      and_told (bytes_eq (sha256 (job_text names a)) (sha256 (job_text names b))) (bytes_eq (job_text names a) (job_text names b))
      (same_digest (job_text names a) (job_text names b))

  among_texts : (j : BuildJob) (js : List BuildJob) → is_among (key_of names j) (map (key_of names) js) ≡ is_text_among names (job_text names j) js
  among_texts j [] = refl
  among_texts j (k ∷ ks) = ap₂ (λ (b c : Bool). cond b true c) (same_texts j k) (among_texts j ks)

  chosen : (b : Bool) (js : List BuildJob) (j : BuildJob)
      → cond b (map (key_of names) js) (map (key_of names) js ++ key_of names j ∷ []) ≡ map (key_of names) (cond b js (js ++ j ∷ []))
  chosen true js j = refl
  chosen false js j = sym (map_push (key_of names) js j)

  one_key : (js : List BuildJob) (j : BuildJob) → with_key (map (key_of names) js) (key_of names j) ≡ map (key_of names) (with_job names js j)
  one_key js j =
      ap (λ (b : Bool). cond b (map (key_of names) js) (map (key_of names) js ++ key_of names j ∷ [])) (among_texts j js)
      ∙ chosen (is_text_among names (job_text names j) js) js j

  -- the first keys are those of the first jobs
  pub first_of_jobs : (js more : List BuildJob) → first_keys (map (key_of names) js) (map (key_of names) more) ≡ map (key_of names)
      (first_jobs names js more)
  first_of_jobs js [] = refl
  first_of_jobs js (j ∷ more) = ap (λ (ks : List KeyData). first_keys ks (map (key_of names) more)) (one_key js j)
      ∙ first_of_jobs (with_job names js j) more

  pub jobs_behind : (js : List BuildJob) → jobs_of (map (key_of names) js) ≡ js
  jobs_behind [] = refl
  jobs_behind (j ∷ js) = ap (λ (ks : List BuildJob). j ∷ ks) (jobs_behind js)

  pub texts_behind : (js : List BuildJob) → map (λ (k : KeyData). k.text) (map (key_of names) js) ≡ map (job_text names) js
  texts_behind [] = refl
  texts_behind (j ∷ js) = ap (λ (ts : List (List ℕ)). job_text names j ∷ ts) (texts_behind js)

-- ---- what holds of all keys holds of the first ones

module _ (P : KeyData → Type 0) where
  one_more : (b : Bool) (ks : List KeyData) (k : KeyData) → All P ks → P k → All P (cond b ks (ks ++ k ∷ []))
  one_more true ks k all is = all
  one_more false ks k all is = All-push P ks k all is

  pub first_all : (ks ms : List KeyData) → All P ks → All P ms → All P (first_keys ks ms)
  first_all ks [] all more = all
  first_all ks (m ∷ ms) all more =
      first_all (with_key ks m) ms (one_more (is_among m ks) ks m all (All-head P m ms more)) (All-tail P m ms more)

module _ (names : List (List ℕ)) (P : BuildJob → Type 0) where
  one_job : (b : Bool) (js : List BuildJob) (j : BuildJob) → All P js → P j → All P (cond b js (js ++ j ∷ []))
  one_job true js j all is = all
  one_job false js j all is = All-push P js j all is

  pub first_jobs_all : (js more : List BuildJob) → All P js → All P more → All P (first_jobs names js more)
  first_jobs_all js [] all more = all
  first_jobs_all js (j ∷ later) all more =
      first_jobs_all (with_job names js j) later (one_job (is_text_among names (job_text names j) js) js j all (All-head P j later more))
      (All-tail P j later more)

-- ---- where the first keys are held, all are

module _ (held : List KeyData) where
  abbrev IsHeld : KeyData → Type 0
  IsHeld k = is_among k held ≡ true

  same_among : (k h : KeyData) (ks : List KeyData) → same k h ≡ true → is_among k ks ≡ is_among h ks
  same_among k h [] is = refl
  same_among k h (x ∷ xs) is = ap₂ (λ (b c : Bool). cond b true c) (same_laws.congr k h x is) (same_among k h xs is)

  -- a key is held that is among held ones
  among_held : (k : KeyData) (ks : List KeyData) → is_among k ks ≡ true → All IsHeld ks → IsHeld k
  among_held k [] is all = absurd (true≢false (sym is))
  among_held k (h ∷ hs) is all = cases (λ found. among_held k hs found (All-tail IsHeld h hs all)) (same k h) refl is
    where
      cases : (is_among k hs ≡ true → IsHeld k) → (b : Bool) → same k h ≡ b → cond b true (is_among k hs) ≡ true → IsHeld k
      cases rest true eq found = same_among k h held eq ∙ All-head IsHeld h hs all
      cases rest false eq found = rest found

  kept : (b : Bool) (ks : List KeyData) (k : KeyData) → All IsHeld (cond b ks (ks ++ k ∷ [])) → All IsHeld ks
  kept true ks k all = all
  kept false ks k all = front ks all
    where
      front : (xs : List KeyData) → All IsHeld (xs ++ k ∷ []) → All IsHeld xs
      front [] all = All-nil IsHeld
      front (x ∷ xs) all = All-cons IsHeld x xs (All-head IsHeld x (xs ++ k ∷ []) all) (front xs (All-tail IsHeld x (xs ++ k ∷ []) all))

  last : (ks : List KeyData) (k : KeyData) → All IsHeld (ks ++ k ∷ []) → IsHeld k
  last [] k all = All-head IsHeld k [] all
  last (x ∷ xs) k all = last xs k (All-tail IsHeld x (xs ++ k ∷ []) all)

  new_or_not : (ks : List KeyData) (k : KeyData) → All IsHeld (with_key ks k) → IsHeld k
  new_or_not ks k all = cases (is_among k ks) refl all
    where
      cases : (b : Bool) → is_among k ks ≡ b → All IsHeld (cond b ks (ks ++ k ∷ [])) → IsHeld k
      cases true is held = among_held k ks is held
      cases false is held = last ks k held

  done_held : (ks ms : List KeyData) → All IsHeld (first_keys ks ms) → All IsHeld ks
  done_held ks [] all = all
  done_held ks (m ∷ ms) all = kept (is_among m ks) ks m (done_held (with_key ks m) ms all)

  pub all_held : (ks ms : List KeyData) → All IsHeld (first_keys ks ms) → All IsHeld ms
  all_held ks [] all = All-nil IsHeld
  all_held ks (m ∷ ms) all = All-cons IsHeld m ms (new_or_not ks m (done_held (with_key ks m) ms all)) (all_held (with_key ks m) ms all)
