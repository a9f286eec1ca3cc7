-- A run: new marks, and thinning where there are 1,025.
use Rattle.std.specs.Prelude.{ℕ, zero, suc, ◌+◌, ◌%◌, List, [], ◌∷◌, ◌++◌, length, if◌then◌else◌, eqb}
use Rattle.machine.specs.Kit.{Kit}
use Rattle.machine.specs.Rows.{slice}
use Rattle.book_history.specs.declared.link.Link.TheVariants.{Joined}
use Rattle.book_history.specs.declared.segment.Segment.{Segment}
use Rattle.book_history.specs.Links.{both}

-- the new marks' cycles: the multiples of the interval strictly between c and c + n, then c + n
abbrev pub grid : ℕ → ℕ → ℕ → List ℕ
grid interval c zero = []
grid interval c (suc zero) = (c + 1) ∷ []
grid interval c (suc (suc n)) =
    if eqb ((c + 1) % interval) 0 then (c + 1) ∷ grid interval (c + 1) (suc n) else grid interval (c + 1) (suc n)

-- the marks of odd index are taken out
abbrev pub thin : {S : Type 0} → List (Segment S) → List (Segment S)
thin [] = []
thin (g ∷ []) = g ∷ []
thin (g ∷ h ∷ gs) = record { link = both g.link h.link; to = h.to; state = h.state } ∷ thin gs

abbrev pub add_mark : {S : Type 0} → List (Segment S) → Segment S → List (Segment S)
add_mark segs g = if eqb (length segs + 2) 1025 then thin (segs ++ g ∷ []) else segs ++ g ∷ []

-- marks at these cycles after the last one, which is at a with state s
abbrev pub extend : {D S R O : Type 0} → Kit D S R O → D → List R → List (Segment S) → ℕ → S → List ℕ → List (Segment S)
extend k m rows segs a s [] = segs
extend k m rows segs a s (c ∷ cs) =
    extend k m rows (add_mark segs (record { link = Joined; to = c; state = k.seg m (slice rows a c) s })) c (k.seg m (slice rows a c) s) cs
