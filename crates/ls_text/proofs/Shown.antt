-- What a refusal shows.
use Rattle.std.proofs.Common.{◌≡◌, ◌<◌, ℕ, List, [], ◌∷◌, Result, Ok, Err, sym, subst}
use Rattle.std.specs.List.{All}
use Rattle.std.specs.Prelude.{IfErr}
use Rattle.std.proofs.lemmas.List.Elements.{All-nil, All-cons}
use Rattle.ls_text.specs.declared.name_id.NameId.{NameId}
use Rattle.ls_text.specs.declared.refusal.Refusal.{Refusal}
use Rattle.ls_text.specs.declared.refusal.Refusal.TheVariants as refusal
use Rattle.ls_text.specs.Readings.{CanShow, IsNameless}

abbrev Shown : ℕ → List NameId → Type 0
Shown count ids = All (λ (id : NameId). id.0 < count) ids

none_shown : (count : ℕ) (ids : List NameId) → ids ≡ [] → Shown count ids
none_shown count ids none = subst (Shown count) (sym none) (All-nil (λ (id : NameId). id.0 < count))

-- a refusal without names
pub nameless : (count : ℕ) (e : Refusal) → IsNameless e → CanShow count e
nameless count (refusal.Fault f) none = none_shown count f.names none
nameless count refusal.NoMemory none = tt

pub all_nameless : {A : Type 0} (count : ℕ) (r : Result A Refusal) → IfErr r IsNameless → IfErr r (CanShow count)
all_nameless count (Ok x) none = tt
all_nameless count (Err e) none = nameless count e none

-- a refusal of one name
pub one_shown : (count : ℕ) (id : NameId) (ids : List NameId) → ids ≡ id ∷ [] → id.0 < count → Shown count ids
one_shown count id ids is within =
    subst (Shown count) (sym is) (All-cons (λ (id : NameId). id.0 < count) id [] within (All-nil (λ (id : NameId). id.0 < count)))
