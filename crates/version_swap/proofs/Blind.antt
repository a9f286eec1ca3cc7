-- What goes on the same whatever overrides are still to come.
use Rattle.std.proofs.Common.{◌≡◌, List, [], ◌∷◌, ◌++◌, Option, Result, Ok, Err, refl, ◌∙◌, ap}
use Rattle.ls_text.specs.declared.fault.Fault.{Fault}
use Rattle.gen_unroll.specs.Told.{Told, go_on, ◌>>=◌, quiet}
use Rattle.gen_unroll.specs.Steps.{ModuleStep}
use Rattle.gen_unroll.specs.Unrolled.{State, each}
use Rattle.gen_unroll.specs.Values.{ConstantValue}

-- the same state with other overrides to come
abbrev pub under : List (Option ConstantValue) → State → State
under os st = record st { overrides = os }

abbrev pub ending_under : List (Option ConstantValue) → Result State Fault → Result State Fault
ending_under os (Ok st) = Ok (under os st)
ending_under os (Err e) = Err e

-- the same steps, and the same end
abbrev pub told_under : List (Option ConstantValue) → Told State → Told State
told_under os t = record { said = t.said; ending = ending_under os t.ending }

-- the overrides are neither looked at nor used up
abbrev pub IsBlind : (State → Told State) → Type 0
IsBlind g = (os : List (Option ConstantValue)) (st : State) → g (under os st) ≡ told_under os (g st)

-- ---- steps

on_blind : (os : List (Option ConstantValue)) (said : List ModuleStep) (r : Result State Fault) (g : State → Told State) → IsBlind g
    → go_on said (ending_under os r) g ≡ told_under os (go_on said r g)
on_blind os said (Ok st) g is = ap (λ (t : Told State). record { said = said ++ t.said; ending = t.ending }) (is os st)
on_blind os said (Err e) g is = refl

-- a step, and what follows it
pub then_blind : (os : List (Option ConstantValue)) (t u : Told State) (g : State → Told State) → u ≡ told_under os t → IsBlind g
    → (u >>= g) ≡ told_under os (t >>= g)
then_blind os t u g is next = ap (λ (s : Told State). s >>= g) is ∙ on_blind os t.said t.ending g next

-- a value that tells nothing
pub quiet_blind : {A : Type 0} (os : List (Option ConstantValue)) (r : Result A Fault) (g h : A → Told State) → ((x : A) → h x ≡ told_under os (g x))
    → (quiet r >>= h) ≡ told_under os (quiet r >>= g)
quiet_blind os (Ok x) g h is = is x
quiet_blind os (Err e) g h is = refl

-- one after another
pub each_blind : {A : Type 0} (step : A → State → Told State) → ((x : A) → IsBlind (step x)) → (xs : List A) → IsBlind (each step xs)
each_blind step is [] os st = refl
each_blind step is (x ∷ xs) os st = then_blind os (step x st) (step x (under os st)) (each step xs) (is x os st) (each_blind step is xs)
