-- Numbers of names, under a table that grows.
use Rattle.std.proofs.Common.{◌≡◌, ℕ, ◌+◌, ◌<◌, ◌≤◌, List, [], ◌∷◌, ◌++◌, map, length, drop, get_or, All, Global, Vec}
use Rattle.std.proofs.Common.{refl, sym, ◌∙◌, ap, ap₂, subst, append_assoc, append-nil}
use Rattle.std.proofs.lemmas.List.{map_push, at_drop_all}
use Rattle.std.proofs.lemmas.List.Elements.{All-head, All-tail, All-push}
use Rattle.ls_text.specs.declared.name_id.NameId.{NameId}
use Rattle.ls_text.specs.Texts.{Grows, IsIdOf}
use Rattle.ls_text.proofs.Growth.{grows_on, IsKnown, known_grown, texts_grown, known_more}
use Rattle.typed_ir.proofs.Lists.{drop_read}
use Rattle.module_registry.specs.declared.build_job.BuildJob.{BuildJob}
use Rattle.unit_jobs.specs.declared.unnamed_job.UnnamedJob.{UnnamedJob}
use Rattle.unit_jobs.specs.Jobs.{InstanceJob}
use Rattle.unit_jobs.specs.JobViews.{job_view}
use Rattle.ls_text.specs.TextViews.{text_items, text_of}
use Rattle.unit_jobs.specs.UnnamedViews.{unnamed_view}

-- the table has the names of a job
abbrev pub AreKnown : ℕ → BuildJob → Type 0
AreKnown count j = All (IsKnown count) j.names

-- ---- names

pub text_more : (old new : List (List ℕ)) (before now : List NameId) (n : NameId) (all : List (Vec ℕ Global)) (k : ℕ) (text : Vec ℕ Global)
    (whole : List (List ℕ))
    → Grows old new → All (IsKnown (length old)) before → now ≡ before ++ n ∷ [] → IsIdOf new text.items n.0 → k < length all
    → text ≡ get_or all k text
    → map (text_of old) before ++ map text_items (drop k all) ≡ whole → map (text_of new) now ++ map text_items (drop (k + 1) all) ≡ whole
text_more old new before now n all k text whole g known is id h at so_far =
    let left = map text_items (drop (k + 1) all) in
    ap (λ (ns : List NameId). map (text_of new) ns ++ left) is
    ∙ ap (λ (ts : List (List ℕ)). ts ++ left) (map_push (text_of new) before n)
    ∙ ap₂ (λ (ts : List (List ℕ)) (t : List ℕ). (ts ++ t ∷ []) ++ left) (texts_grown old new before g known) id.same
    ∙ append_assoc (map (text_of old) before) (text.items ∷ []) left
    ∙ sym (ap (λ (ts : List (Vec ℕ Global)). map (text_of old) before ++ map text_items ts) (drop_read all k text h at))
    ∙ so_far

-- no text is left
pub text_none : (texts : List (List ℕ)) (ns : List NameId) (all : List (Vec ℕ Global)) (k : ℕ) (whole : List (List ℕ)) → length all ≤ k
    → map (text_of texts) ns ++ map text_items (drop k all) ≡ whole → map (text_of texts) ns ≡ whole
text_none texts ns all k whole h so_far =
    sym (append-nil (map (text_of texts) ns))
    ∙ sym (at_drop_all (λ (ts : List (Vec ℕ Global)). map (text_of texts) ns ++ map text_items ts) all k h)
    ∙ so_far

-- ---- jobs

abbrev with_names : BuildJob → List (List ℕ) → InstanceJob
with_names j names = record { «module» = j.module.value; parameters = j.parameters; clock = j.clock; children = j.children; names = names }

job_grown : (old new : List (List ℕ)) (j : BuildJob) → Grows old new → AreKnown (length old) j → job_view new j ≡ job_view old j
job_grown old new j g known = ap (with_names j) (texts_grown old new j.names g known)

jobs_grown : (old new : List (List ℕ)) (js : List BuildJob) → Grows old new → All (AreKnown (length old)) js
    → map (job_view new) js ≡ map (job_view old) js
jobs_grown old new [] g all = refl
jobs_grown old new (j ∷ js) g all =
    ap₂ (λ (x : InstanceJob) (xs : List InstanceJob). x ∷ xs) (job_grown old new j g (All-head (AreKnown (length old)) j js all))
    (jobs_grown old new js g (All-tail (AreKnown (length old)) j js all))

-- one job more
pub jobs_known : (old new : List (List ℕ)) (before now : List BuildJob) (j : BuildJob) → Grows old new → All (AreKnown (length old)) before
    → now ≡ before ++ j ∷ [] → AreKnown (length new) j → All (AreKnown (length new)) now
jobs_known old new before now j g all is known =
    subst (All (AreKnown (length new))) (sym is)
    (All-push (AreKnown (length new)) before j (λ k d within. known_grown old new _ g (all k d within)) known)

pub job_more : (old new : List (List ℕ)) (before now : List BuildJob) (j : BuildJob) (u : UnnamedJob) (left behind : List UnnamedJob)
    (whole : List InstanceJob)
    → Grows old new → All (AreKnown (length old)) before → now ≡ before ++ j ∷ [] → job_view new j ≡ unnamed_view u → left ≡ u ∷ behind
    → map (job_view old) before ++ map unnamed_view left ≡ whole → map (job_view new) now ++ map unnamed_view behind ≡ whole
job_more old new before now j u left behind whole g known is same split so_far =
    ap (λ (js : List BuildJob). map (job_view new) js ++ map unnamed_view behind) is
    ∙ ap (λ (js : List InstanceJob). js ++ map unnamed_view behind) (map_push (job_view new) before j)
    ∙ ap₂ (λ (js : List InstanceJob) (x : InstanceJob). (js ++ x ∷ []) ++ map unnamed_view behind) (jobs_grown old new before g known) same
    ∙ append_assoc (map (job_view old) before) (unnamed_view u ∷ []) (map unnamed_view behind)
    ∙ sym (ap (λ (us : List UnnamedJob). map (job_view old) before ++ map unnamed_view us) split)
    ∙ so_far

-- no job is left
pub job_none : (texts : List (List ℕ)) (js : List BuildJob) (left : List UnnamedJob) (whole : List InstanceJob) → left ≡ []
    → map (job_view texts) js ++ map unnamed_view left ≡ whole → map (job_view texts) js ≡ whole
job_none texts js left whole none so_far =
    sym (append-nil (map (job_view texts) js))
    ∙ sym (ap (λ (us : List UnnamedJob). map (job_view texts) js ++ map unnamed_view us) none)
    ∙ so_far

pub ruleset texts = (known_more, text_more, text_none, grows_on)

pub ruleset jobs = (jobs_known, job_more, job_none, grows_on)
