-- Items in places of their ports: what the walk over the connections of an instance keeps.
use Rattle.std.specs.Prelude.{ℕ, suc, ◌==◌, if◌then◌else◌, List, [], ◌∷◌, ◌++◌, Option, Some, None, option_to_list}
use Rattle.unit_build.specs.Connections.{Connected}

-- what stands there stays
abbrev pub first_or : {A : Type 0} → Option A → A → Option A
first_or None x = Some x
first_or (Some y) x = Some y

-- one more at a port, where the first of these places is that of port k
abbrev pub put_at : {A : Type 0} → (port k : ℕ) → A → List (Option A) → List (Option A)
put_at port k x [] = []
put_at port k x (s ∷ ss) = (if port == k then first_or s x else s) ∷ put_at port (suc k) x ss

-- those of all these connections
abbrev pub put_all : {A : Type 0} → (Connected → A) → List Connected → List (Option A) → List (Option A)
put_all item [] ss = ss
put_all item (c ∷ cs) ss = put_all item cs (put_at c.port 0 (item c) ss)

-- what stands in places, in their order
abbrev pub listed : {A : Type 0} → List (Option A) → List A
listed [] = []
listed (s ∷ ss) = option_to_list s ++ listed ss
