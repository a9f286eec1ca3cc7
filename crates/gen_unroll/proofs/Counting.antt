-- The turns of a loop, one by one.
use Rattle.std.proofs.Common.{◌≡◌, ℕ, zero, suc, ◌-◌, Bool, true, false, if◌then◌else◌, List, [], ◌∷◌, ◌++◌, append_assoc, append-nil, Result, Ok, Err, refl, sym, ◌∙◌, ap, subst, arith}
use Rattle.ls_text.specs.declared.fault.Fault.{Fault}
use Rattle.ls_text.specs.declared.place.Place.{Place}
use Rattle.verilog_ast.specs.Items.{LoopHead}
use Rattle.ls_text.specs.declared.refusal.Refusal.{Refusal}
use Rattle.ls_text.specs.declared.refusal.Refusal.TheVariants as refusal
use Rattle.width_rules.specs.Faults.{IsFirst, fault}
use Rattle.width_rules.specs.Scopes.{Scope, Turn, Genvar}
use Rattle.gen_unroll.specs.Declarations.{declared}
use Rattle.ls_text.specs.Answers.{◌>>=◌, Answers}
use Rattle.gen_unroll.specs.Values.{ConstantValue, evaluated, unless}
use Rattle.gen_unroll.specs.Unrolled.{holds, in_turn, genvar_value, turns_from, turns, assigned, loop_turns}
use Rattle.gen_unroll.proofs.Scoping.{DiffersAt}
use Rattle.gen_unroll.proofs.Values.{is_first}

-- some values before those of what is left
abbrev pub before : List ConstantValue → Result (List ConstantValue) Fault → Result (List ConstantValue) Fault
before vs (Ok ws) = Ok (vs ++ ws)
before vs (Err e) = Err e

pub before_none : (r : Result (List ConstantValue) Fault) → r ≡ before [] r
before_none (Ok ws) = refl
before_none (Err e) = refl

before_both : (xs ys : List ConstantValue) (r : Result (List ConstantValue) Fault) → before xs (before ys r) ≡ before (xs ++ ys) r
before_both xs ys (Ok ws) = ap Ok (sym (append_assoc xs ys ws))
before_both xs ys (Err e) = refl

-- what comes where the condition holds
abbrev rest : Place → LoopHead → Scope → ℕ → ConstantValue → Result ConstantValue Fault → Result (List ConstantValue) Fault
rest at h scope left v r = r >>= λ w. turns_from at h scope left (genvar_value w) >>= λ vs. Ok (v ∷ vs)

abbrev tested : Result (List ConstantValue) Fault → Result Bool Fault → Result (List ConstantValue) Fault
tested more r = r >>= λ go. if go then more else Ok []

put : (v : ConstantValue) (r : Result (List ConstantValue) Fault) → (r >>= λ vs. Ok (v ∷ vs)) ≡ before (v ∷ []) r
put v (Ok ws) = refl
put v (Err e) = refl

-- one turn more
pub turn_more : (at : Place) (h : LoopHead) (scope : Scope) (left : ℕ) (v w : ConstantValue) (values : List ConstantValue) → (left ≡ 0 → ⊥)
    → holds (in_turn scope h.start.name v) h.condition ≡ Ok true → evaluated (in_turn scope h.start.name v) h.step.value ≡ Ok w
    → before values (turns_from at h scope left v) ≡ before (values ++ v ∷ []) (turns_from at h scope (left - 1) (genvar_value w))
turn_more at h scope zero v w values some go next = absurd (some refl)
turn_more at h scope (suc k) v w values some go next =
    let less : suc k - 1 ≡ k = omega arith in
    ap (λ r. before values (tested (rest at h scope k v (evaluated (in_turn scope h.start.name v) h.step.value)) r)) go
    ∙ ap (λ r. before values (rest at h scope k v r)) next
    ∙ ap (before values) (put v (turns_from at h scope k (genvar_value w)))
    ∙ before_both values (v ∷ []) (turns_from at h scope k (genvar_value w))
    ∙ ap (λ n. before (values ++ v ∷ []) (turns_from at h scope n (genvar_value w))) (sym less)

-- no further turn
pub turn_none : (at : Place) (h : LoopHead) (scope : Scope) (left : ℕ) (v : ConstantValue)
    → holds (in_turn scope h.start.name v) h.condition ≡ Ok false → turns_from at h scope left v ≡ Ok []
turn_none at h scope zero v stop = ap (tested (Err (fault 41 at []))) stop
turn_none at h scope (suc k) v stop = ap (tested (rest at h scope k v (evaluated (in_turn scope h.start.name v) h.step.value))) stop

-- the condition has a fault
pub turn_condition : (at : Place) (h : LoopHead) (scope : Scope) (left : ℕ) (v : ConstantValue) (e : Fault)
    → holds (in_turn scope h.start.name v) h.condition ≡ Err e → turns_from at h scope left v ≡ Err e
turn_condition at h scope zero v e bad = ap (tested (Err (fault 41 at []))) bad
turn_condition at h scope (suc k) v e bad = ap (tested (rest at h scope k v (evaluated (in_turn scope h.start.name v) h.step.value))) bad

-- no turn is left
pub turn_limit : (at : Place) (h : LoopHead) (scope : Scope) (left : ℕ) (v : ConstantValue) → left ≡ 0
    → holds (in_turn scope h.start.name v) h.condition ≡ Ok true → turns_from at h scope left v ≡ Err (fault 41 at [])
turn_limit at h scope zero v none go = ap (tested (Err (fault 41 at []))) go
turn_limit at h scope (suc k) v none go = absurd (let z : suc k ≡ 0 = none in omega arith)

-- the step has a fault
pub turn_step : (at : Place) (h : LoopHead) (scope : Scope) (left : ℕ) (v : ConstantValue) (e : Fault) → (left ≡ 0 → ⊥)
    → holds (in_turn scope h.start.name v) h.condition ≡ Ok true → evaluated (in_turn scope h.start.name v) h.step.value ≡ Err e
    → turns_from at h scope left v ≡ Err e
turn_step at h scope zero v e some go bad = absurd (some refl)
turn_step at h scope (suc k) v e some go bad =
    ap (tested (rest at h scope k v (evaluated (in_turn scope h.start.name v) h.step.value))) go
    ∙ ap (rest at h scope k v) bad

-- at the end
pub turns_end : (values : List ConstantValue) (whole r : Result (List ConstantValue) Fault) → whole ≡ before values r → r ≡ Ok [] → whole ≡ Ok values
turns_end values whole r is none = is ∙ ap (before values) none ∙ ap Ok (append-nil values)

pub turns_fault : (values : List ConstantValue) (whole r : Result (List ConstantValue) Fault) (e : Fault) → whole ≡ before values r → r ≡ Err e → whole ≡ Err e
turns_fault values whole r e is bad = is ∙ ap (before values) bad

-- ---- in names in reach that differ at the genvar alone

in_same : {A : Type 0} (h : LoopHead) (scope other : Scope) (v : ConstantValue) (f : Scope → A) (x : A) → DiffersAt h.start.name scope other
    → f (in_turn other h.start.name v) ≡ x → f (in_turn scope h.start.name v) ≡ x
in_same h scope other v f x d is = sym (ap f (d.same (Turn v.width v.value v.signed))) ∙ is

-- a further turn
pub goes_more : (at : Place) (h : LoopHead) (scope other now : Scope) (left : ℕ) (v w : ConstantValue) (values : List ConstantValue) (whole : Result (List ConstantValue) Fault)
    → whole ≡ before values (turns_from at h scope left v) → DiffersAt h.start.name scope other → now ≡ in_turn other h.start.name v → (left ≡ 0 → ⊥)
    → holds (in_turn other h.start.name v) h.condition ≡ Ok true → evaluated now h.step.value ≡ Ok w
    → whole ≡ before (values ++ v ∷ []) (turns_from at h scope (left - 1) (genvar_value w))
goes_more at h scope other now left v w values whole is d now_is some go next =
    is ∙ turn_more at h scope left v w values some
    (in_same h scope other v (λ s. holds s h.condition) (Ok true) d go)
    (in_same h scope other v (λ s. evaluated s h.step.value) (Ok w) d (ap (λ s. evaluated s h.step.value) (sym now_is) ∙ next))

-- the last turn is behind
pub ends_here : (at : Place) (h : LoopHead) (scope other : Scope) (left : ℕ) (v : ConstantValue) (values : List ConstantValue) (whole : Result (List ConstantValue) Fault)
    → whole ≡ before values (turns_from at h scope left v) → DiffersAt h.start.name scope other
    → holds (in_turn other h.start.name v) h.condition ≡ Ok false → whole ≡ Ok values
ends_here at h scope other left v values whole is d stop =
    turns_end values whole (turns_from at h scope left v) is
    (turn_none at h scope left v (in_same h scope other v (λ s. holds s h.condition) (Ok false) d stop))

-- one turn too many
pub passes_limit : (at : Place) (h : LoopHead) (scope other : Scope) (left : ℕ) (v : ConstantValue) (values : List ConstantValue) (whole : Result (List ConstantValue) Fault)
    → whole ≡ before values (turns_from at h scope left v) → DiffersAt h.start.name scope other → left ≡ 0
    → holds (in_turn other h.start.name v) h.condition ≡ Ok true → whole ≡ unless (fault 41 at [] ∷ []) []
passes_limit at h scope other left v values whole is d none go =
    turns_fault values whole (turns_from at h scope left v) (fault 41 at []) is
    (turn_limit at h scope left v none (in_same h scope other v (λ s. holds s h.condition) (Ok true) d go))

pub limit_refused : {A : Type 0} (at : Place) (whole : Result (List ConstantValue) Fault) (view : A → List ConstantValue) (r : Refusal)
    → whole ≡ unless (fault 41 at [] ∷ []) [] → IsFirst (fault 41 at [] ∷ []) r → Answers {A = A} (Err r) view whole
limit_refused at whole view r is h = subst (Answers (Err r) view) (sym is) (is_first (fault 41 at [] ∷ []) [] view r h)

-- the condition is refused
pub condition_refused : {A B : Type 0} (at : Place) (h : LoopHead) (scope other : Scope) (left : ℕ) (v : ConstantValue) (values : List ConstantValue) (whole : Result (List ConstantValue) Fault)
    (view : A → List ConstantValue) (test : B → Bool) (r : Refusal)
    → whole ≡ before values (turns_from at h scope left v) → DiffersAt h.start.name scope other
    → Answers {A = B} (Err r) test (holds (in_turn other h.start.name v) h.condition) → Answers {A = A} (Err r) view whole
condition_refused at h scope other left v values whole view test (refusal.Fault e) is d bad =
    turns_fault values whole (turns_from at h scope left v) e is
    (turn_condition at h scope left v e (in_same h scope other v (λ s. holds s h.condition) (Err e) d bad))
condition_refused at h scope other left v values whole view test refusal.NoMemory is d bad = tt

-- the step is refused
pub step_refused : {A B : Type 0} (at : Place) (h : LoopHead) (scope other now : Scope) (left : ℕ) (v : ConstantValue) (values : List ConstantValue) (whole : Result (List ConstantValue) Fault)
    (view : A → List ConstantValue) (value : B → ConstantValue) (r : Refusal)
    → whole ≡ before values (turns_from at h scope left v) → DiffersAt h.start.name scope other → now ≡ in_turn other h.start.name v → (left ≡ 0 → ⊥)
    → holds (in_turn other h.start.name v) h.condition ≡ Ok true
    → Answers {A = B} (Err r) value (evaluated now h.step.value) → Answers {A = A} (Err r) view whole
step_refused at h scope other now left v values whole view value (refusal.Fault e) is d now_is some go bad =
    turns_fault values whole (turns_from at h scope left v) e is
    (turn_step at h scope left v e some
    (in_same h scope other v (λ s. holds s h.condition) (Ok true) d go)
    (in_same h scope other v (λ s. evaluated s h.step.value) (Err e) d (ap (λ s. evaluated s h.step.value) (sym now_is) ∙ bad)))
step_refused at h scope other now left v values whole view value refusal.NoMemory is d now_is some go bad = tt

-- ---- the whole loop

pub loop_counted : (at : Place) (h : LoopHead) (scope opened now : Scope) (left : ℕ) (x : Unit {0}) (vs : List ConstantValue)
    → assigned scope h ≡ Ok x → opened ≡ scope → now ≡ declared opened h.start.name Genvar → turns at h now left ≡ Ok vs
    → loop_turns at h scope left ≡ Ok vs
loop_counted at h scope opened now left x vs names opened_is now_is counted =
    ap (λ (r : Result (Unit {0}) Fault). r >>= λ _. turns at h (declared scope h.start.name Genvar) left) names
    ∙ ap (λ s. turns at h s left) (sym (now_is ∙ ap (λ s. declared s h.start.name Genvar) opened_is)) ∙ counted

pub loop_refused : {A : Type 0} (at : Place) (h : LoopHead) (scope opened now : Scope) (left : ℕ) (x : Unit {0}) (view : A → List ConstantValue) (r : Refusal)
    → assigned scope h ≡ Ok x → opened ≡ scope → now ≡ declared opened h.start.name Genvar → Answers {A = A} (Err r) view (turns at h now left)
    → Answers {A = A} (Err r) view (loop_turns at h scope left)
loop_refused at h scope opened now left x view (refusal.Fault e) names opened_is now_is bad =
    ap (λ (r : Result (Unit {0}) Fault). r >>= λ _. turns at h (declared scope h.start.name Genvar) left) names
    ∙ ap (λ s. turns at h s left) (sym (now_is ∙ ap (λ s. declared s h.start.name Genvar) opened_is)) ∙ bad
loop_refused at h scope opened now left x view refusal.NoMemory names opened_is now_is bad = tt

pub ruleset turning = (before_none, goes_more, ends_here, passes_limit, limit_refused, condition_refused, step_refused)
