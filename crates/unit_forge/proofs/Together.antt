-- Results of several jobs, put together.
use Rattle.std.proofs.Common.{◌≡◌, List, [], ◌∷◌, ◌++◌, map, append_assoc, refl, sym, ap, subst, ◌∙◌}
use Rattle.std.specs.Prelude.{Result, Ok, Err, IfErr, IsErrAnd}
use Rattle.std.specs.List.{AllZip}
use Rattle.ls_text.specs.declared.fault.Fault.{Fault}
use Rattle.ls_text.specs.declared.refusal.Refusal.{Refusal}
use Rattle.ls_text.specs.declared.refusal.Refusal.TheVariants as refusal
use Rattle.typed_ir.specs.declared.unit.Unit.{Unit as ModuleUnit}
use Rattle.module_registry.specs.declared.build_job.BuildJob.{BuildJob}
use Rattle.ls_text.specs.Answers.{◌>>=◌}
use Rattle.module_registry.specs.Building.{Built, built_all, Refuses}
use Rattle.module_registry.specs.Keys.{KeyData, jobs_of}
use Rattle.module_registry.specs.UnitViews.{built_of}
use Rattle.unit_forge.specs.Results.{IsResultOf, before, all_of, RefusesFirst}

-- units before these, where there are any
abbrev pub behind : List ModuleUnit → Result (List ModuleUnit) Refusal → Result (List ModuleUnit) Refusal
behind us (Ok vs) = Ok (us ++ vs)
behind us (Err e) = Err e

one_before : (us : List ModuleUnit) (u : ModuleUnit) (rest : Result (List ModuleUnit) Refusal) → behind us (before u rest) ≡ behind (us ++ u ∷ []) rest
one_before us u (Ok vs) = ap Ok (sym (append_assoc us (u ∷ []) vs))
one_before us u (Err e) = refl

-- one more unit
pub one_more : (us : List ModuleUnit) (u : ModuleUnit) (rs : List (Result ModuleUnit Refusal)) (whole : Result (List ModuleUnit) Refusal)
    → behind us (all_of (Ok u ∷ rs)) ≡ whole → behind (us ++ u ∷ []) (all_of rs) ≡ whole
one_more us u rs whole is = sym (one_before us u (all_of rs)) ∙ is

-- each of these is the own result of the job of its key
abbrev pub AreResults : (BuildJob → Result Built Fault) → List KeyData → List (Result ModuleUnit Refusal) → Type 0
AreResults builds ks rs = AllZip (λ (k : KeyData) (r : Result ModuleUnit Refusal). IsResultOf (builds k.job) r) ks rs

first_unit : (u : ModuleUnit) (us : List ModuleUnit) (found : Result Built Fault) (rest : Result (List ModuleUnit) Refusal) (others : Result (List Built) Fault)
    → found ≡ Ok (built_of u) → before u rest ≡ Ok us → ((vs : List ModuleUnit) → rest ≡ Ok vs → others ≡ Ok (map built_of vs))
    → (found >>= λ x. others >>= λ xs. Ok (x ∷ xs)) ≡ Ok (map built_of us)
first_unit u us found (Ok vs) others built is later =
    let same : u ∷ vs ≡ us = cc in
    ap (λ (r : Result Built Fault). r >>= λ x. others >>= λ xs. Ok (x ∷ xs)) built
    ∙ ap (λ (r : Result (List Built) Fault). r >>= λ xs. Ok (built_of u ∷ xs)) (later vs refl)
    ∙ ap (λ (ws : List ModuleUnit). Ok (map built_of ws)) same
first_unit u us found (Err e) others built is later = absurd (cc)

-- the units of the results are those of the jobs
pub units_so : (builds : BuildJob → Result Built Fault) (ks : List KeyData) (rs : List (Result ModuleUnit Refusal)) (us : List ModuleUnit) → AreResults builds ks rs → all_of rs ≡ Ok us
    → built_all builds (jobs_of ks) ≡ Ok (map built_of us)
units_so builds [] [] us own is =
    let same : [] ≡ us = cc in
    ap (λ (ws : List ModuleUnit). Ok (map built_of ws)) same
units_so builds [] (r ∷ rs) us own is = absurd own
units_so builds (k ∷ ks) [] us own is = absurd own
units_so builds (k ∷ ks) (Ok u ∷ rs) us own is =
    first_unit u us (builds k.job) (all_of rs) (built_all builds (jobs_of ks)) own.0 is (λ vs later. units_so builds ks rs vs own.1 later)
units_so builds (k ∷ ks) (Err e ∷ rs) us own is = absurd (cc)

behind_unit : (u : ModuleUnit) (f : Fault) (found : Result Built Fault) (rest : Result (List ModuleUnit) Refusal) (others : Result (List Built) Fault)
    → found ≡ Ok (built_of u) → before u rest ≡ Err (refusal.Fault f) → (rest ≡ Err (refusal.Fault f) → others ≡ Err f)
    → (found >>= λ x. others >>= λ xs. Ok (x ∷ xs)) ≡ Err f
behind_unit u f found (Ok vs) others built is later = absurd (cc)
behind_unit u f found (Err e) others built is later =
    ap (λ (r : Result Built Fault). r >>= λ x. others >>= λ xs. Ok (x ∷ xs)) built
    ∙ ap (λ (r : Result (List Built) Fault). r >>= λ xs. Ok (built_of u ∷ xs)) (later is)

-- the first fault of the results is that of the jobs
fault_so : (builds : BuildJob → Result Built Fault) (ks : List KeyData) (rs : List (Result ModuleUnit Refusal)) (f : Fault) → AreResults builds ks rs → all_of rs ≡ Err (refusal.Fault f)
    → built_all builds (jobs_of ks) ≡ Err f
fault_so builds [] [] f own is = absurd (cc)
fault_so builds [] (r ∷ rs) f own is = absurd own
fault_so builds (k ∷ ks) [] f own is = absurd own
fault_so builds (k ∷ ks) (Ok u ∷ rs) f own is =
    behind_unit u f (builds k.job) (all_of rs) (built_all builds (jobs_of ks)) own.0 is (λ later. fault_so builds ks rs f own.1 later)
fault_so builds (k ∷ ks) (Err (refusal.Fault g) ∷ rs) f own is =
    let same : g ≡ f = cc in
    ap (λ (r : Result Built Fault). r >>= λ x. built_all builds (jobs_of ks) >>= λ xs. Ok (x ∷ xs)) own.0 ∙ ap Err same
fault_so builds (k ∷ ks) (Err refusal.NoMemory ∷ rs) f own is = absurd (cc)

refuses_so : (builds : BuildJob → Result Built Fault) (ks : List KeyData) (rs : List (Result ModuleUnit Refusal)) (e : Refusal) → AreResults builds ks rs → RefusesFirst e (all_of rs)
    → Refuses e (built_all builds (jobs_of ks))
refuses_so builds ks rs (refusal.Fault f) own is = fault_so builds ks rs f own is
refuses_so builds ks rs refusal.NoMemory own is = tt

-- and it is so where it is handed on
pub refused_on : {A : Type 0} (builds : BuildJob → Result Built Fault) (ks : List KeyData) (rs : List (Result ModuleUnit Refusal)) (r : Result A Refusal) (e : Refusal)
    → IsErrAnd r (λ y. y ≡ e) → AreResults builds ks rs → RefusesFirst e (all_of rs) → IfErr r (λ y. Refuses y (built_all builds (jobs_of ks)))
refused_on builds ks rs (Ok x) e is own first = tt
refused_on builds ks rs (Err y) e is own first =
    subst (λ (z : Refusal). Refuses z (built_all builds (jobs_of ks))) (sym is) (refuses_so builds ks rs e own first)

-- keys behind others have their jobs behind those of the others
pub jobs_joined : (ks new : List KeyData) → jobs_of (ks ++ new) ≡ jobs_of ks ++ jobs_of new
jobs_joined [] new = refl
jobs_joined (k ∷ ks) new = ap (λ (js : List BuildJob). k.job ∷ js) (jobs_joined ks new)
