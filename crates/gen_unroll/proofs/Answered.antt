-- Steps that gave a value, tests that let pass, and what unrolling ends with.
use Rattle.std.proofs.Common.{◌≡◌, Bool, true, false, if◌then◌else◌, List, Result, Ok, Err, refl, sym, ap, subst}
use Rattle.std.specs.Prelude.{Some, None}
use Rattle.std.proofs.lemmas.Option.{none-some, same_Some}
use Rattle.ls_text.specs.declared.fault.Fault.{Fault}
use Rattle.ls_text.specs.Answers.{◌>>=◌}
use Rattle.gen_unroll.specs.Steps.{ModuleStep}
use Rattle.gen_unroll.specs.Told.{fault_in}
use Rattle.gen_unroll.specs.Unrolled.{State}

pub err_or_ok : {A P : Type 0} (f : Fault) (y : A) → Err f ≡ Ok y → P
err_or_ok {A} f y h = absurd (subst is_err h tt)
  where
    is_err : Result A Fault → Type 0
    is_err (Ok x) = ⊥
    is_err (Err e) = Unit {0}

abbrev pub good : {A : Type 0} → A → Result A Fault
good x = Ok x

pub ok_same : {A : Type 0} (x y : A) → good x ≡ good y → x ≡ y
ok_same {A} x y h = ap (value_or x) h
  where
    value_or : A → Result A Fault → A
    value_or z (Ok v) = v
    value_or z (Err e) = z

-- the value of a first step, and what the second one gave of it
pub record Stepped {A B : Type 0} (d : Result A Fault) (f : A → Result B Fault) (y : B) : Type 0 where
  pub value : A
  pub first : d ≡ Ok value
  pub second : f value ≡ Ok y

pub first_step : {A B : Type 0} (d : Result A Fault) (f : A → Result B Fault) (y : B) → (d >>= f) ≡ Ok y → Stepped d f y
first_step (Ok x) f y h = record { value = x; first = refl; second = h }
first_step (Err e) f y h = err_or_ok e y h

-- a test that refuses what meets it
pub past_test : {A : Type 0} (b : Bool) (f : Fault) (r : Result A Fault) (y : A) → (if b then Err f else r) ≡ Ok y → (b ≡ false) × (r ≡ Ok y)
past_test true f r y h = err_or_ok f y h
past_test false f r y h = (refl, h)

-- and one that refuses what doesn't
pub past_need : {A : Type 0} (b : Bool) (f : Fault) (r : Result A Fault) (y : A) → (if b then r else Err f) ≡ Ok y → (b ≡ true) × (r ≡ Ok y)
past_need true f r y h = (refl, h)
past_need false f r y h = err_or_ok f y h

-- what was said, where unrolling ends without a fault, and its fault where it ends with one
pub ended : (said : List ModuleStep) (r : Result State Fault) → None ≡ fault_in r → (r >>= λ st. Ok said) ≡ Ok said
ended said (Ok st) none = refl
ended said (Err f) none = absurd (none-some f none)

pub stopped : (said : List ModuleStep) (r : Result State Fault) (f : Fault) → Some f ≡ fault_in r → (r >>= λ st. Ok said) ≡ Err f
stopped said (Ok st) f some = absurd (none-some f (sym some))
stopped said (Err g) f some = ap (λ (h : Fault). Err h) (sym (same_Some f g some))
