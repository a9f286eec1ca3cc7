-- Modules that were visited.
use Rattle.std.proofs.Common.{Bor, ◌≡◌, ℕ, Bool, true, false, cond, List, [], ◌∷◌, map, All, Ok, Global, sym, ◌∙◌, ap, subst}
use Rattle.std.specs.Prelude.{Option, Some, None}
use Rattle.std.specs.Option.{option_copied}
use Rattle.std.specs.Map.{lookup}
use Rattle.std.specs.declared.sync.Arc.{Arc}
use Rattle.std.proofs.lemmas.Bool.{cond_both}
use Rattle.std.proofs.lemmas.List.Elements.{All-nil, All-cons, All-head, All-tail}
use Rattle.std.proofs.lemmas.Option.{none-some, same_Some}
use Rattle.indexmap.specs.IndexMap.{insert_entry}
use Rattle.ls_text.specs.declared.name_id.NameId.{NameId}
use Rattle.typed_ir.specs.declared.constant.Const.{Const}
use Rattle.verilog_ast.specs.Items.{ModuleDeclaration}
use Rattle.gen_unroll.specs.Views.{override_view}
use Rattle.elaborate.specs.declared.job.Job.{Job}
use Rattle.elaborate.specs.declared.visit_key.VisitKey.{VisitKey}
use Rattle.elaborate.specs.Jobs.{IsOf, IsJob, AreJobs, kept_job, job_view}
use Rattle.module_names.specs.Modules.{module_named}
use Rattle.clock_rules.specs.Views.{clock_view}
use Rattle.elaborate.specs.Views.{visited_of}
use Rattle.elaborate.specs.Visits.{visited}

abbrev pub Entries : Type 0
Entries = List (VisitKey × Arc Job Global)

-- ---- one that is kept

here_or_later : (P : Job → Type 0) (b : Bool) (x v : Arc Job Global) (o : Option (Arc Job Global)) → P x.value → (o ≡ Some v → P v.value) → cond b (Some x) o ≡ Some v → P v.value
here_or_later P true x v o h later is = subst (λ (z : Arc Job Global). P z.value) (same_Some x v is) h
here_or_later P false x v o h later is = later is

-- what holds of all visits holds of one that is looked up
at_lookup : (P : Job → Type 0) (test : VisitKey → Bool) (es : Entries) (v : Arc Job Global) → All (λ (e : VisitKey × Arc Job Global). P (kept_job e)) es → lookup test es ≡ Some v → P v.value
at_lookup P test [] v all is = absurd (none-some v is)
at_lookup P test (e ∷ es) v all is =
    let Q : VisitKey × Arc Job Global → Type 0 = λ e. P (kept_job e) in
    here_or_later P (test e.0) e.1 v (lookup test es) (All-head Q e es all) (at_lookup P test es v (All-tail Q e es all)) is

looked_at : (r : Option (Bor (Arc Job Global))) (kept : Bor (Arc Job Global)) (o : Option (Arc Job Global)) → option_copied r ≡ o → r ≡ Some kept → o ≡ Some kept.now
looked_at r kept o value is = sym value ∙ ap option_copied is

-- one that is found gives what the visit finds
pub job_found : (turns : ℕ) (ms : List ModuleDeclaration) (es : Entries) (test : VisitKey → Bool) (r : Option (Bor (Arc Job Global))) (kept : Bor (Arc Job Global)) (copy : Arc Job Global)
    (m : ModuleDeclaration) (name : NameId) (overrides : List (Option Const)) (clock : Option NameId)
    → AreJobs turns ms es → option_copied r ≡ lookup test es → r ≡ Some kept → copy.value ≡ kept.now.value → IsOf kept.now.value name overrides clock
    → module_named name.0 ms ≡ Some m → visited turns ms None m (map override_view overrides) (clock_view clock) ≡ Ok (visited_of copy.value.visited)
job_found turns ms es test r kept copy m name overrides clock are value is same of there =
    let job : IsJob turns ms kept.now.value = at_lookup (IsJob turns ms) test es kept.now are.all (looked_at r kept (lookup test es) value is) in
    ap (λ vs. visited turns ms None m vs (clock_view clock)) (sym of.given)
    ∙ ap (λ k. visited turns ms None m (map override_view kept.now.value.overrides.items) k) (sym of.clocked)
    ∙ job.found m (ap (λ (n : ℕ). module_named n ms) of.named ∙ there)
    ∙ ap (λ (j : Job). Ok (visited_of j.visited)) (sym same)

-- ---- one more

inserted : (P : Job → Type 0) (E : VisitKey → VisitKey → Bool) (es : Entries) (k : VisitKey) (v : Arc Job Global)
    → All (λ (e : VisitKey × Arc Job Global). P (kept_job e)) es → P v.value → All (λ (e : VisitKey × Arc Job Global). P (kept_job e)) (insert_entry E es k v)
inserted P E [] k v all one = All-cons (λ (e : VisitKey × Arc Job Global). P (kept_job e)) (k, v) [] one (All-nil (λ (e : VisitKey × Arc Job Global). P (kept_job e)))
inserted P E (e ∷ es) k v all one =
    let Q : VisitKey × Arc Job Global → Type 0 = λ e. P (kept_job e) in
    cond_both (E k e.0) ((e.0, v) ∷ es) (e ∷ insert_entry E es k v) (All Q)
    (λ _. All-cons Q (e.0, v) es one (All-tail Q e es all))
    (λ _. All-cons Q e (insert_entry E es k v) (All-head Q e es all) (inserted P E es k v (All-tail Q e es all) one))

pub job_more : (turns : ℕ) (ms : List ModuleDeclaration) (E : VisitKey → VisitKey → Bool) (es new : Entries) (k : VisitKey) (job : Arc Job Global)
    → AreJobs turns ms es → IsJob turns ms job.value → new ≡ insert_entry E es k job → AreJobs turns ms new
job_more turns ms E es new k job are one is = subst (AreJobs turns ms) (sym is) (record { all = inserted (IsJob turns ms) E es k job are.all one })

-- what a visit finds is what is kept of it
pub new_job : (turns : ℕ) (ms : List ModuleDeclaration) (job : Job) (m : ModuleDeclaration) → module_named job.instantiated.0 ms ≡ Some m
    → visited turns ms None m (map override_view job.overrides.items) (clock_view job.clock) ≡ Ok (visited_of job.visited) → IsJob turns ms job
new_job turns ms job m there is = record {
  found = λ n same. ap (λ x. visited turns ms None x (map override_view job.overrides.items) (clock_view job.clock)) (same_Some n m (sym same ∙ there)) ∙ is;
}

-- the one that is kept behind its visit
pub new_kept : (turns : ℕ) (ms : List ModuleDeclaration) (m : ModuleDeclaration) (name : NameId) (given : List (Option Const)) (clock : Option NameId) (job copy : Arc Job Global)
    → copy.value ≡ job.value → IsOf job.value name given clock → module_named name.0 ms ≡ Some m
    → visited turns ms None m (map override_view given) (clock_view clock) ≡ Ok (job_view job) → IsJob turns ms copy.value
new_kept turns ms m name given clock job copy copy_is of there found =
    subst (IsJob turns ms) (sym copy_is)
    (new_job turns ms job.value m (ap (λ (n : ℕ). module_named n ms) of.named ∙ there)
    (ap (λ vs. visited turns ms None m vs (clock_view job.value.clock)) of.given
    ∙ ap (λ k. visited turns ms None m (map override_view given) k) of.clocked
    ∙ found))

pub ruleset jobs = (job_found, job_more, new_job)
