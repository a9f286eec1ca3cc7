-- Readings that may give nothing keep what each step gives.
use Rattle.std.proofs.Common.{◌≡◌, Bool, true, false, Option, Some, None, refl, cond, is_some, true≢false, sym}
use Rattle.std.specs.Prelude.{IfSome}
use Rattle.std.proofs.lemmas.Option.{none-some}
use Rattle.ls_text.specs.Options.{guard, ◌>>=◌}

pub then_some : {A B : Type 0} (P : A → Type 0) (Q : B → Type 0) (o : Option A) (f : A → Option B) → IfSome o P → ((x : A) → P x → IfSome (f x) Q) → IfSome (o >>= f) Q
then_some P Q (Some x) f h next = next x h
then_some P Q None f h next = tt

pub any_some : {A B : Type 0} (Q : B → Type 0) (o : Option A) (f : A → Option B) → ((x : A) → IfSome (f x) Q) → IfSome (o >>= f) Q
any_some Q (Some x) f next = next x
any_some Q None f next = tt

-- a value that is guarded
pub guarded : {A : Type 0} (P : A → Type 0) (b : Bool) (x : A) → (b ≡ true → P x) → IfSome (guard b x) P
guarded P true x h = h refl
guarded P false x h = tt

-- where the first isn't taken and there is none behind it
pub not_first : {A : Type 0} (b : Bool) (x : A) (o : Option A) → cond b (Some x) o ≡ None → (b ≡ false) × (o ≡ None)
not_first true x o h = absurd (none-some _ (sym h))
not_first false x o h = (refl, h)

-- what isn't some is none
pub no_value : {A : Type 0} (o : Option A) → is_some o ≡ false → o ≡ None
no_value None h = refl
no_value (Some x) h = absurd (true≢false h)
