-- An instance that was put behind the others, and what is in it.
use Rattle.std.proofs.Common.{◌≡◌, ℕ, List, [], ◌∷◌, ◌++◌, map, length, Global, Result, Ok, Err, IsErrAnd, sym, ◌∙◌, ap, subst}
use Rattle.std.specs.Prelude.{Option, Some, None}
use Rattle.std.specs.declared.sync.Arc.{Arc}
use Rattle.std.proofs.lemmas.List.{map_push, length-map}
use Rattle.ls_text.specs.declared.fault.Fault.{Fault}
use Rattle.ls_text.specs.declared.name_id.NameId.{NameId}
use Rattle.ls_text.specs.declared.refusal.Refusal.{Refusal}
use Rattle.ls_text.specs.declared.refusal.Refusal.TheVariants as refusal
use Rattle.typed_ir.specs.declared.constant.Const.{Const}
use Rattle.verilog_ast.specs.declared.identifier.Identifier.{Identifier}
use Rattle.verilog_ast.specs.Items.{ModuleDeclaration}
use Rattle.ls_text.specs.Answers.{◌>>=◌, Answers, Leads}
use Rattle.gen_unroll.specs.Values.{ConstantValue}
use Rattle.gen_unroll.specs.Views.{here_of, override_view}
use Rattle.elaborate.specs.declared.child_instance.ChildInstance.{ChildInstance}
use Rattle.elaborate.specs.declared.job.Job.{Job}
use Rattle.elaborate.specs.declared.limits.Limits.{Limits}
use Rattle.elaborate.specs.declared.standing.StandingInstance.{StandingInstance}
use Rattle.elaborate.specs.Elaborated.{Standing, standing, top_standing, within, of_module, child_at, from_top}
use Rattle.elaborate.specs.Jobs.{IsOf, job_view, standing_of}
use Rattle.clock_rules.specs.Views.{clock_view, id_of}
use Rattle.elaborate.specs.Views.{child_of, visited_of}
use Rattle.elaborate.specs.Visits.{Visited, visited}

-- ---- a refusal is handed on

as_leads : (A : Type 0) {B : Type 0} (e : Refusal) (new : B) (d d2 : Result B Fault) → d2 ≡ d → Leads {A = Unit {0}} (Err e) new d → Leads {A = A} (Err e) new d2
as_leads A (refusal.Fault f) new d d2 same h = same ∙ h
as_leads A refusal.NoMemory new d d2 same h = tt

pub leads_on : {A B : Type 0} (r : Result A Refusal) (e : Refusal) (new : B) (d d2 : Result B Fault) → IsErrAnd r (λ y. y ≡ e) → d2 ≡ d → Leads {A = Unit {0}} (Err e) new d
    → Leads {A = A} r new d2
leads_on {A} (Err y) e new d d2 is same h = subst (λ (z : Refusal). Leads {A = A} (Err z) new d2) (sym is) (as_leads A e new d d2 same h)
leads_on {A} (Ok x) e new d d2 is same h = absurd is

as_answers : {A B : Type 0} (view : A → B) (e : Refusal) (new : B) (d d2 : Result B Fault) → d2 ≡ d → Leads {A = Unit {0}} (Err e) new d → Answers (Err e) view d2
as_answers view (refusal.Fault f) new d d2 same h = same ∙ h
as_answers view refusal.NoMemory new d d2 same h = tt

pub answers_on : {A B : Type 0} (view : A → B) (r : Result A Refusal) (e : Refusal) (new : B) (d d2 : Result B Fault) → IsErrAnd r (λ y. y ≡ e) → d2 ≡ d
    → Leads {A = Unit {0}} (Err e) new d → Answers r view d2
answers_on view (Err y) e new d d2 is same h = subst (λ (z : Refusal). Answers (Err z) view d2) (sym is) (as_answers view e new d d2 same h)
answers_on view (Ok x) e new d d2 is same h = absurd is

-- ---- an instance

abbrev above_as : ℕ → ChildInstance → Arc Job Global → StandingInstance
above_as above c copy = record { parent = Some above; block = c.block; name = c.name; job = copy }

stood : (above : ℕ) (c : ChildInstance) (k : Option NameId) (given : List (Option Const)) (job copy : Arc Job Global) → given ≡ c.overrides.items → copy.value ≡ job.value
    → IsOf job.value c.instantiated.name given k → standing_of (above_as above c copy) ≡ standing above (child_of c) (clock_view k) (job_view job)
stood above c k given job copy given_is same of =
    ap (λ (j : Job). record { parent = Some above; block = here_of c.block; name = c.name; instantiated = j.instantiated.0; overrides = map override_view j.overrides.items; clock = clock_view j.clock; visited = visited_of j.visited }) same
    ∙ ap (λ n. record { parent = Some above; block = here_of c.block; name = c.name; instantiated = n; overrides = map override_view job.value.overrides.items; clock = clock_view job.value.clock; visited = job_view job }) of.named
    ∙ ap (λ vs. record { parent = Some above; block = here_of c.block; name = c.name; instantiated = c.instantiated.name.0; overrides = vs; clock = clock_view job.value.clock; visited = job_view job })
    (of.given ∙ ap (λ (zs : List (Option Const)). map override_view zs) given_is)
    ∙ ap (λ q. record { parent = Some above; block = here_of c.block; name = c.name; instantiated = c.instantiated.name.0; overrides = map override_view c.overrides.items; clock = q; visited = job_view job }) of.clocked

-- the instances in it
pub goes_into : (l : Limits) (ms : List ModuleDeclaration) (m : ModuleDeclaration) (left above here : ℕ) (path path2 : List NameId) (c : ChildInstance) (k : Option NameId) (given : List (Option Const))
    (job copy : Arc Job Global) (seen : Job) (all all2 : List StandingInstance)
    → given ≡ c.overrides.items → IsOf job.value c.instantiated.name given k → visited l.turns ms None m (map override_view given) (clock_view k) ≡ Ok (job_view job)
    → copy.value ≡ job.value → seen ≡ job.value → here ≡ length all → path2 ≡ path ++ c.instantiated.name ∷ [] → all2 ≡ all ++ above_as above c copy ∷ []
    → of_module l ms above (child_at l ms left (map id_of path ++ c.instantiated.name.0 ∷ [])) (child_of c) (clock_view k) (map standing_of all) m
    ≡ within (child_at l ms left (map id_of path2) here) (visited_of seen.visited) (map standing_of all2)
goes_into l ms m left above here path path2 c k given job copy seen all all2 given_is of found same seen_is here_is path_is all_is =
    let p = map id_of path ++ c.instantiated.name.0 ∷ [] in
    let more : List Standing = map standing_of all ++ standing above (child_of c) (clock_view k) (job_view job) ∷ [] in
    ap (λ (d : Result Visited Fault). d >>= λ v. within (child_at l ms left p (length (map standing_of all))) v (map standing_of all ++ standing above (child_of c) (clock_view k) v ∷ []))
    (ap (λ (zs : List (Option Const)). visited l.turns ms None m (map override_view zs) (clock_view k)) (sym given_is) ∙ found)
    ∙ ap (λ (n : ℕ). within (child_at l ms left p n) (job_view job) more) (length-map all standing_of ∙ sym here_is)
    ∙ ap (λ (ps : List ℕ). within (child_at l ms left ps here) (job_view job) more) (sym (ap (λ (ns : List NameId). map id_of ns) path_is ∙ map_push id_of path c.instantiated.name))
    ∙ ap (λ (xs : List Standing). within (child_at l ms left (map id_of path2) here) (job_view job) xs)
    (sym (ap (λ (xs : List StandingInstance). map standing_of xs) all_is ∙ map_push standing_of all (above_as above c copy)
    ∙ ap (λ (s : Standing). map standing_of all ++ s ∷ []) (stood above c k given job copy given_is same of)))
    ∙ ap (λ (j : Job). within (child_at l ms left (map id_of path2) here) (visited_of j.visited) (map standing_of all2)) (sym seen_is)

-- ---- the top

abbrev top_as : Identifier → Arc Job Global → StandingInstance
top_as name copy = record { parent = None; block = None; name = name; job = copy }

-- what it is
top_stood : (name : Identifier) (k : Option NameId) (job copy : Arc Job Global) → copy.value ≡ job.value → IsOf job.value name.name [] k
    → standing_of (top_as name copy) ≡ record { parent = None; block = None; name = name; instantiated = name.name.0; overrides = []; clock = clock_view k; visited = job_view job }
top_stood name k job copy same of =
    ap (λ (j : Job). record { parent = None; block = None; name = name; instantiated = j.instantiated.0; overrides = map override_view j.overrides.items; clock = clock_view j.clock; visited = visited_of j.visited }) same
    ∙ ap (λ (n : ℕ). record { parent = None; block = None; name = name; instantiated = n; overrides = map override_view job.value.overrides.items; clock = clock_view job.value.clock; visited = job_view job }) of.named
    ∙ ap (λ (os : List (Option ConstantValue)). record { parent = None; block = None; name = name; instantiated = name.name.0; overrides = os; clock = clock_view job.value.clock; visited = job_view job }) of.given
    ∙ ap (λ (q : Option ℕ). record { parent = None; block = None; name = name; instantiated = name.name.0; overrides = []; clock = q; visited = job_view job }) of.clocked

-- the instances in it
pub top_into : (l : Limits) (ms : List ModuleDeclaration) (m : ModuleDeclaration) (name : Identifier) (k : Option NameId)
    (job copy : Arc Job Global) (seen : Job) (path path2 : List NameId) (all all2 : List StandingInstance)
    → visited l.turns ms (Some l.top_ports) m [] (clock_view k) ≡ Ok (job_view job) → IsOf job.value name.name [] k → m.name ≡ name
    → copy.value ≡ job.value → seen ≡ job.value → path ≡ [] → all ≡ [] → path2 ≡ path ++ name.name ∷ [] → all2 ≡ all ++ top_as name copy ∷ []
    → from_top l ms (clock_view k) m ≡ within (child_at l ms l.levels (map id_of path2) 0) (visited_of seen.visited) (map standing_of all2)
top_into l ms m name k job copy seen path path2 all all2 found of name_is copy_is seen_is path_is all_is path2_is all2_is =
    let w = job_view job in
    let alone : List Standing = record { parent = None; block = None; name = name; instantiated = name.name.0; overrides = []; clock = clock_view k; visited = w } ∷ [] in
    ap (λ (d : Result Visited Fault). d >>= λ x. within (child_at l ms l.levels (m.name.name.0 ∷ []) 0) x (top_standing m (clock_view k) x ∷ [])) found
    ∙ ap (λ (n : Identifier). within (child_at l ms l.levels (n.name.0 ∷ []) 0) w (record { parent = None; block = None; name = n; instantiated = n.name.0; overrides = []; clock = clock_view k; visited = w } ∷ [])) name_is
    ∙ ap (λ (ps : List ℕ). within (child_at l ms l.levels ps 0) w alone)
    (sym (ap (λ (ns : List NameId). map id_of ns) path2_is ∙ ap (λ (ns : List NameId). map id_of (ns ++ name.name ∷ [])) path_is))
    ∙ ap (λ (xs : List Standing). within (child_at l ms l.levels (map id_of path2) 0) w xs)
    (sym (ap (λ (xs : List StandingInstance). map standing_of xs) all2_is ∙ ap (λ (xs : List StandingInstance). map standing_of (xs ++ top_as name copy ∷ [])) all_is
    ∙ ap (λ (s : Standing). s ∷ []) (top_stood name k job copy copy_is of)))
    ∙ ap (λ (j : Job). within (child_at l ms l.levels (map id_of path2) 0) (visited_of j.visited) (map standing_of all2)) (sym seen_is)
