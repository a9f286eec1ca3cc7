-- Jobs of one key text have one unit, or one first fault but for its place.
use Rattle.std.proofs.Common.{◌≡◌, ℕ, List, [], ◌∷◌, All, map, Result, Ok, Err, refl, sym, ◌∙◌, ap, ap₂}
use Rattle.std.proofs.lemmas.List.Elements.{All-head, All-tail}
use Rattle.ls_text.specs.declared.fault.Fault.{Fault}
use Rattle.ls_text.specs.declared.name_id.NameId.{NameId}
use Rattle.ls_text.specs.Texts.{HasEachOnce}
use Rattle.gen_unroll.specs.Steps.{ModuleStep}
use Rattle.ls_text.specs.Answers.{◌>>=◌}
use Rattle.module_registry.specs.declared.build_job.BuildJob.{BuildJob}
use Rattle.module_registry.specs.Building.{Built}
use Rattle.module_registry.specs.Jobs.{job_text}
use Rattle.ls_text.specs.TextViews.{text_of}
use Rattle.unit_build.specs.Building.{module_of, job_steps, built}
use Rattle.unit_build.specs.FromSteps.{unit_from}
use Rattle.version_swap.proofs.SameSpelling.{same_declaration}
use Rattle.version_swap.specs.Unplaced.{unplaced_declaration}
use Rattle.version_swap.specs.UnplacedFindings.{fault_unplaced, answer_unplaced, found_unplaced, step_unplaced}
use Rattle.version_swap.proofs.UnplacedBuilt.{places_change_nothing, same_but_places}
use Rattle.version_swap.specs.JobsUnder.{IsIn, IsJobUnder}
use Rattle.version_swap.specs.Told.{HasSameParts}
use Rattle.version_swap.proofs.BlockTexts.{same_texts}
use Rattle.version_swap.proofs.KeyTexts.{key_tells}
use Rattle.version_swap.proofs.Parts.{id_same}
use Rattle.version_swap.proofs.SameSteps.{same_steps}
use Rattle.version_swap.proofs.ToldJobs.{told_under}

-- ---- names

pub ids_same : (names : List (List ℕ)) (ms ns : List NameId) → HasEachOnce names → All (IsIn names) ms → All (IsIn names) ns
    → map (text_of names) ms ≡ map (text_of names) ns → ms ≡ ns
ids_same names [] [] once in_m in_n same = refl
ids_same names [] (n ∷ ns) once in_m in_n same = absurd cc
ids_same names (m ∷ ms) [] once in_m in_n same = absurd cc
ids_same names (m ∷ ms) (n ∷ ns) once in_m in_n same =
    let first : text_of names m ≡ text_of names n = cc in
    let rest : map (text_of names) ms ≡ map (text_of names) ns = cc in
    ap₂ (λ (k : NameId) (ks : List NameId). k ∷ ks)
    (id_same names m n once (All-head (IsIn names) m ms in_m) (All-head (IsIn names) n ns in_n) first)
    (ids_same names ms ns once (All-tail (IsIn names) m ms in_m) (All-tail (IsIn names) n ns in_n) rest)

-- ---- both have the same names, or unrolling stops at one fault but for its place

record IsStopped (a b : BuildJob) : Type 0 where
  first : Fault
  second : Fault
  stops : built a ≡ Err first
  too : built b ≡ Err second
  same : fault_unplaced first ≡ fault_unplaced second

data IsAlike (a b : BuildJob) : Type 0 where
  alike : a.names ≡ b.names → IsAlike a b
  stopped : IsStopped a b → IsAlike a b

stops_there : (job : BuildJob) (e : Fault) → job_steps job ≡ Err e → built job ≡ Err e
unfolding built
stops_there job e is = ap (λ (r : Result (List ModuleStep) Fault). r >>= unit_from job) is

module _ (names : List (List ℕ)) (a b : BuildJob) (once : HasEachOnce names) (under_a : IsJobUnder names a) (under_b : IsJobUnder names b) where
  steps_alike : (r q : Result (List ModuleStep) Fault) → job_steps a ≡ r → job_steps b ≡ q
      → found_unplaced (map step_unplaced) r ≡ found_unplaced (map step_unplaced) q → IsAlike a b
  steps_alike (Ok xs) (Ok ys) is_a is_b same =
      let steps : map step_unplaced xs ≡ map step_unplaced ys = cc in
      alike (ids_same names a.names b.names once under_a.within under_b.within
      (under_a.named xs is_a ∙ same_texts names xs ys steps ∙ sym (under_b.named ys is_b)))
  steps_alike (Ok xs) (Err e) is_a is_b same = absurd cc
  steps_alike (Err d) (Ok ys) is_a is_b same = absurd cc
  steps_alike (Err d) (Err e) is_a is_b same =
      let faults : fault_unplaced d ≡ fault_unplaced e = cc in
      stopped (record { first = d; second = e; stops = stops_there a d is_a; too = stops_there b e is_b; same = faults })

  module _ (text : job_text names a ≡ job_text names b) where
    parts : HasSameParts a b
    parts = key_tells names a b once (told_under names a under_a) (told_under names b under_b) text

    modules : unplaced_declaration (module_of a) ≡ unplaced_declaration (module_of b)
    modules = same_declaration names a.module.value b.module.value once under_a.spelled under_b.spelled parts.spelling

    jobs_alike : IsAlike a b
    jobs_alike = steps_alike (job_steps a) (job_steps b) refl refl (same_steps a b modules parts.parameters)

    units_by : (u : Built) → IsAlike a b → built a ≡ Ok u → built b ≡ Ok u
    units_by u (alike same) is = places_change_nothing a b u modules parts.parameters parts.clock parts.children same is
    units_by u (stopped s) is = let stops : built a ≡ Err s.first = s.stops in absurd cc

    faults_by : IsAlike a b → answer_unplaced (built a) ≡ answer_unplaced (built b)
    faults_by (alike same) = same_but_places a b modules parts.parameters parts.clock parts.children same
    faults_by (stopped s) = ap answer_unplaced s.stops ∙ ap Err s.same ∙ sym (ap answer_unplaced s.too)

-- jobs of one key text have one unit
pub one_unit : (names : List (List ℕ)) (a b : BuildJob) (u : Built) → HasEachOnce names → IsJobUnder names a → IsJobUnder names b
    → job_text names a ≡ job_text names b → built a ≡ Ok u → built b ≡ Ok u
one_unit names a b u once under_a under_b text is =
    units_by names a b once under_a under_b text u (jobs_alike names a b once under_a under_b text) is

-- or one fault, but for its place
pub one_answer : (names : List (List ℕ)) (a b : BuildJob) → HasEachOnce names → IsJobUnder names a → IsJobUnder names b
    → job_text names a ≡ job_text names b → answer_unplaced (built a) ≡ answer_unplaced (built b)
one_answer names a b once under_a under_b text =
    faults_by names a b once under_a under_b text (jobs_alike names a b once under_a under_b text)
