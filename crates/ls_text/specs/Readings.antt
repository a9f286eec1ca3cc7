-- The first fault of a text, and what an answer says of a reading.
use Rattle.std.specs.Prelude.{◌≡◌, ◌<◌, ℕ, List, [], map, Result, Ok, Err, ⊤}
use Rattle.std.specs.List.{All}
use Rattle.ls_text.specs.Texts.{text_at}
use Rattle.ls_text.specs.declared.name_id.NameId.{NameId}
use Rattle.ls_text.specs.declared.place.Place.{Place}
use Rattle.ls_text.specs.declared.at.At.{At}
use Rattle.ls_text.specs.declared.at.At.TheVariants.{Text}
use Rattle.ls_text.specs.declared.fault.Fault.{Fault}
use Rattle.ls_text.specs.declared.refusal.Refusal.{Refusal}
use Rattle.ls_text.specs.declared.refusal.Refusal.TheVariants as refusal

-- a fault with the words that it shows
pub record TextFault : Type 0 where
  pub code : ℕ
  pub at : At
  pub words : List (List ℕ)

abbrev pub fault_at : ℕ → Place → List (List ℕ) → TextFault
fault_at code at words = record { code = code; at = Text at; words = words }

-- what a fault says, by the table of names
abbrev pub fault_view : List (List ℕ) → Fault → TextFault
fault_view names f = record { code = f.code; at = f.at; words = map (λ (id : NameId). text_at names id.0) f.names }

-- a reading goes on where it gave something
infixl 10 ◌>>=◌
abbrev pub ◌>>=◌ : {A B : Type 0} → Result A TextFault → (A → Result B TextFault) → Result B TextFault
(Ok x) >>= f = f x
(Err e) >>= f = Err e

abbrev pub Refuses : {B : Type 0} → List (List ℕ) → Refusal → Result B TextFault → Type 0
Refuses names (refusal.Fault f) read = read ≡ Err (fault_view names f)
Refuses names refusal.NoMemory read = ⊤

-- An answer, seen by view, is what the reading gives, or its first fault; or memory ran out.
abbrev pub Gives : {A B : Type 0} → List (List ℕ) → (A → B) → Result A Refusal → Result B TextFault → Type 0
Gives names view (Ok x) read = read ≡ Ok (view x)
Gives names view (Err e) read = Refuses names e read

-- each name that a refusal shows is one of so many names
abbrev pub CanShow : ℕ → Refusal → Type 0
CanShow count (refusal.Fault f) = All (λ (id : NameId). id.0 < count) f.names
CanShow count refusal.NoMemory = ⊤

abbrev pub IsNameless : Refusal → Type 0
IsNameless (refusal.Fault f) = f.names ≡ []
IsNameless refusal.NoMemory = ⊤
