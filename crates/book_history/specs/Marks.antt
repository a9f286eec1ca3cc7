-- The last mark, and how far the leading joined links go.
use Rattle.std.specs.Prelude.{ℕ, ◌+◌, List, [], ◌∷◌, Bool, true, false, Option, Some, None, if◌then◌else◌}
use Rattle.book_history.specs.declared.link.Link.{Link}
use Rattle.book_history.specs.declared.link.Link.TheVariants.{Open, Out, Joined}
use Rattle.book_history.specs.declared.segment.Segment.{Segment}
use Rattle.book_history.specs.Links.{is_joined}

abbrev pub last_cycle : {S : Type 0} → ℕ → List (Segment S) → ℕ
last_cycle a [] = a
last_cycle a (g ∷ gs) = last_cycle g.to gs

abbrev pub last_state : {S : Type 0} → S → List (Segment S) → S
last_state s [] = s
last_state s (g ∷ gs) = last_state g.state gs

abbrev pub cycles : {S : Type 0} → List (Segment S) → List ℕ
cycles [] = []
cycles (g ∷ gs) = g.to ∷ cycles gs

-- how far the leading joined links go

abbrev pub lead_past : Link → ℕ → ℕ
lead_past Open n = 0
lead_past (Out m) n = 0
lead_past Joined n = n + 1

abbrev pub lead : {S : Type 0} → List (Segment S) → ℕ
lead [] = 0
lead (g ∷ gs) = lead_past g.link (lead gs)

abbrev pub settled_past : Link → ℕ → ℕ → ℕ
settled_past Open a n = a
settled_past (Out m) a n = a
settled_past Joined a n = n

abbrev pub settled_to : {S : Type 0} → ℕ → List (Segment S) → ℕ
settled_to a [] = a
settled_to a (g ∷ gs) = settled_past g.link a (settled_to g.to gs)

abbrev pub all_joined : {S : Type 0} → List (Segment S) → Bool
all_joined [] = true
all_joined (g ∷ gs) = if is_joined g.link then all_joined gs else false

-- what a show answers
abbrev pub shown : {S : Type 0} → List (Segment S) → Option ℕ
shown segs = if all_joined segs then None else Some (settled_to 0 segs)
