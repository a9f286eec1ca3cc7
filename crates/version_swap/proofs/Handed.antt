-- A refusal that is handed on.
use Rattle.std.proofs.Common.{◌≡◌, sym, subst}
use Rattle.std.specs.Prelude.{Result, Ok, Err, IfErr, IsErrAnd}
use Rattle.ls_text.specs.declared.refusal.Refusal.{Refusal}

pub handed : {A : Type 0} (P : Refusal → Type 0) (r : Result A Refusal) (e : Refusal) → IsErrAnd r (λ y. y ≡ e) → P e → IfErr r P
handed P (Err y) e is h = subst P (sym is) h
handed P (Ok x) e is h = absurd is

pub all_err : {A : Type 0} (P : Refusal → Type 0) (r : Result A Refusal) → ((e : Refusal) → P e) → IfErr r P
all_err P (Ok x) h = tt
all_err P (Err e) h = h e
