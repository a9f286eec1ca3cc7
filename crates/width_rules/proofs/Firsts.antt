-- The first of the faults of parts.
use Rattle.std.proofs.Common.{◌≡◌, List, [], ◌∷◌, ◌++◌, sym, ◌∙◌, ap, subst}
use Rattle.std.proofs.lemmas.Option.{none-some}
use Rattle.ls_text.specs.declared.fault.Fault.{Fault}
use Rattle.ls_text.specs.declared.refusal.Refusal.{Refusal}
use Rattle.ls_text.specs.declared.refusal.Refusal.TheVariants as refusal
use Rattle.width_rules.specs.Faults.{IsFirst}

-- a fault of the first part
pub earlier : (xs ys : List Fault) (r : Refusal) → IsFirst xs r → IsFirst (xs ++ ys) r
earlier [] ys (refusal.Fault f) h = absurd (none-some f h)
earlier (x ∷ xs) ys (refusal.Fault f) h = h
earlier xs ys refusal.NoMemory h = tt

-- of a later one
pub later : (xs ys : List Fault) (r : Refusal) → xs ≡ [] → IsFirst ys r → IsFirst (xs ++ ys) r
later xs ys r none h = subst (λ (zs : List Fault). IsFirst (zs ++ ys) r) (sym none) h

-- no fault
pub neither : (xs ys : List Fault) → xs ≡ [] → ys ≡ [] → xs ++ ys ≡ []
neither xs ys a b = ap (λ (zs : List Fault). zs ++ ys) a ∙ b
