-- A reload: marks that are carried over, and marks that are simulated again.
use Rattle.std.specs.Prelude.{ℕ, List, [], ◌∷◌, if◌then◌else◌, leb}
use Rattle.machine.specs.Kit.{Kit}
use Rattle.machine.specs.Rows.{slice}
use Rattle.book_history.specs.declared.link.Link.TheVariants.{Open, Joined}
use Rattle.book_history.specs.declared.segment.Segment.{Segment}
use Rattle.book_history.specs.Marks.{cycles}

-- marks at these cycles, simulated from the mark at a with state s
abbrev pub simulated : {D S R O : Type 0} → Kit D S R O → D → List R → ℕ → S → List ℕ → List (Segment S)
simulated k m rows a s [] = []
simulated k m rows a s (c ∷ cs) =
    record { link = Joined; to = c; state = k.seg m (slice rows a c) s } ∷ simulated k m rows c (k.seg m (slice rows a c) s) cs

-- marks up to the limit are carried over, those after it are simulated
abbrev pub reloaded : {D S R O : Type 0} → Kit D S R O → D → D → O → List R → ℕ → ℕ → S → List (Segment S) → List (Segment S)
reloaded k old new ops rows limit a s [] = []
reloaded k old new ops rows limit a s (g ∷ gs) =
    if leb g.to limit
    then record { link = Open; to = g.to; state = k.carried old new ops g.state } ∷ reloaded k old new ops rows limit g.to (k.carried old new ops g.state) gs
    else simulated k new rows a s (g.to ∷ cycles gs)

-- the last mark's cycle that is at most the limit, or a
abbrev pub chosen : {S : Type 0} → ℕ → ℕ → List (Segment S) → ℕ
chosen limit a [] = a
chosen limit a (g ∷ gs) = if leb g.to limit then chosen limit g.to gs else a
