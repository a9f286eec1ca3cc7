-- Steps of which the first with a fault gives it, and calls that answer as a definition does.
use Rattle.std.specs.Prelude.{◌≡◌, ⊤, Result, Ok, Err}
use Rattle.ls_text.specs.declared.fault.Fault.{Fault}
use Rattle.ls_text.specs.declared.refusal.Refusal.{Refusal}
use Rattle.ls_text.specs.declared.refusal.Refusal.TheVariants as refusal

infixl 10 ◌>>=◌
-- a step and the next one, which is not reached behind a fault
abbrev pub ◌>>=◌ : {A B : Type 0} → Result A Fault → (A → Result B Fault) → Result B Fault
(Ok x) >>= f = f x
(Err e) >>= f = Err e

-- the answer is that of the definition, or memory ran out
abbrev pub Answers : {A B : Type 0} → Result A Refusal → (A → B) → Result B Fault → Type 0
Answers (Ok x) view d = d ≡ Ok (view x)
Answers (Err (refusal.Fault f)) view d = d ≡ Err f
Answers (Err refusal.NoMemory) view d = ⊤

-- a call leads to what the definition says, or memory ran out
abbrev pub Leads : {A B : Type 0} → Result A Refusal → B → Result B Fault → Type 0
Leads (Ok x) new d = d ≡ Ok new
Leads (Err (refusal.Fault f)) new d = d ≡ Err f
Leads (Err refusal.NoMemory) new d = ⊤
