-- Readings that may give nothing.
use Rattle.std.specs.Prelude.{Bool, if◌then◌else◌, Option, Some, None}

infixl 10 ◌>>=◌
-- a reading goes on where it gave something
abbrev pub ◌>>=◌ : {A B : Type 0} → Option A → (A → Option B) → Option B
None >>= f = None
(Some x) >>= f = f x

-- a value where a test holds
abbrev pub guard : {A : Type 0} → Bool → A → Option A
guard b x = if b then Some x else None
