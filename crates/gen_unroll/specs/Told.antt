-- Steps that are told as they come: what was told, and then a value or the first fault.
use Rattle.std.specs.Prelude.{List, [], ◌∷◌, ◌++◌, Option, Some, None, Result, Ok, Err}
use Rattle.ls_text.specs.declared.fault.Fault.{Fault}
use Rattle.gen_unroll.specs.Steps.{ModuleStep}

pub record Told (A : Type 0) : Type 0 where
  pub said : List ModuleStep
  pub ending : Result A Fault

abbrev pub go_on : {A B : Type 0} → List ModuleStep → Result A Fault → (A → Told B) → Told B
go_on said (Ok x) f = record { said = said ++ (f x).said; ending = (f x).ending }
go_on said (Err e) f = record { said = said; ending = Err e }

infixl 10 ◌>>=◌
abbrev pub ◌>>=◌ : {A B : Type 0} → Told A → (A → Told B) → Told B
t >>= f = go_on t.said t.ending f

abbrev pub done : {A : Type 0} → A → Told A
done x = record { said = []; ending = Ok x }

abbrev pub say : {A : Type 0} → ModuleStep → A → Told A
say step x = record { said = step ∷ []; ending = Ok x }

abbrev pub say_all : {A : Type 0} → List ModuleStep → A → Told A
say_all steps x = record { said = steps; ending = Ok x }

-- what tells nothing
abbrev pub quiet : {A : Type 0} → Result A Fault → Told A
quiet r = record { said = []; ending = r }

abbrev pub fault_in : {A : Type 0} → Result A Fault → Option Fault
fault_in (Ok x) = None
fault_in (Err e) = Some e
